use Rattle.std.proofs.Common.{◌≡◌, ℕ, ◌+◌, ◌-◌, ◌*◌, ◌≤◌}
use Rattle.theory.specs.Calls.{Moment, Ran}
use Rattle.variants.specs.Kinds.{Countable}
use Rattle.families.specs.Drafts.{model}
use Rattle.comparing.specs.Moments.{moment, Continues}
use Rattle.comparing.proofs.running.Comparison+S.run.Given as goal

-- whole: any run of what is left of the budget, from here, is a run of the whole budget from the start, of so many sweeps and strikes
abbrev pub invariant-loop-sweeps : goal.invariant-loop-sweeps
invariant-loop-sweeps g l =
    let K = g.S.VariantSet in
    let L = model K l.left in
    let R = model K l.right in
    record {
      within : l.sweeps ≤ l.budget + 1;
      continues : Continues l.initial.self l.self;
      whole : Countable K → (left j k sweeps strikes : ℕ) (m : Moment) →
          left + l.sweeps ≡ l.budget + 1 → sweeps + 1 ≡ l.sweeps + j → strikes ≡ l.strikes + k →
          Ran K.variants L R left (moment K l.self) j k m → Ran K.variants L R l.budget (moment K l.initial.self) sweeps strikes m;
      few : Countable K → l.strikes ≤ 67108864 * (l.sweeps - 1);
    }
