-- The parts of a draft or a closed family, and one step more.
use Rattle.std.specs.Prelude.{◌≡◌, ℕ, ◌+◌, min, length, slice_set}
use Rattle.families.specs.declared.parts.Step.{Step}
use Rattle.families.specs.declared.parts.Parts.{Parts}

module _ {S : Type 0} (p : Parts S) where
  -- how many steps may be held: the places of the memory, at most 1024
  abbrev pub capacity : ℕ
  capacity = min 1024 (length p.steps.now)

  -- one step more is held, at the next place of the memory; nothing else changed
  pub record Pushed (x : Step S) (q : Parts S) : Type 0 where
    pub states : q.states ≡ p.states
    pub start : q.start ≡ p.start
    pub labels : q.labels ≡ p.labels
    pub held : q.held ≡ p.held + 1
    pub steps : q.steps.now ≡ slice_set p.steps.now p.held x
