use Rattle.std.proofs.Common.{◌≡◌, ℕ, ◌*◌, length, refl, sym, ap, ◌∙◌, ap₂, arith}
use mathlib.Core.Path.{fun_ext}
use Rattle.std.proofs.lemmas.Bool.Decides.{nat_tests}
use Rattle.theory.specs.Sets.{Variants}
use Rattle.theory.specs.Systems as theory
use Rattle.theory.specs.Sweeps.{begun}
use Rattle.theory.proofs.Histories.{comparing_is_exact}
use Rattle.families.specs.Drafts.{model}
use Rattle.tables.specs.Cells.{bounded}
use Rattle.tables.specs.Tables.{Fits}
use Rattle.comparing.proofs.beginning.Comparison+S.begin.Goals as goal

-- what begin writes is nothing outside the states
begun_bounded : (L R : theory.Family) (X : Variants) → bounded L.states R.states (begun L R X) ≡ begun L R X
begun_bounded L R X = fun_ext (λ s. fun_ext (λ t. fun_ext (λ v. grind (arith, nat_tests))))

pub returns-clause-begins : goal.returns-clause-begins
returns-clause-begins g c =
    let K = g.S.VariantSet in
    let L = model K c.args.left.now in
    let R = model K c.args.right.now in
    let old = c.over-table.result in
    let e = c.fill.ensures in
    let o = c.over-table.ensures in
    let rows : old.rows ≡ L.states = o.rows ∙ c.states.ensures.value in
    let cols : old.cols ≡ R.states = o.cols ∙ c.states-2.ensures.value in
    let pairs : old.rows * old.cols ≡ L.states * R.states = ap₂ (λ (n m : ℕ). n * m) rows cols in
    let room : Fits old = omega (arith, pairs, ap length o.cells, c.requires.room) in
    record {
      begun_frame = cc (e.kept.rows, e.kept.cols, rows, cols, c.start.ensures.value, c.start-2.ensures.value);
      begun_moment = rw (e.filled room, rows, cols, begun_bounded L R (K.holds c.args.list)) refl;
      size = rw o.cells at e.kept.size;
      beyond = rw (sym pairs, sym o.cells) e.kept.beyond;
    }

pub returns-clause-promises : goal.returns-clause-promises
returns-clause-promises g c =
    let K = g.S.VariantSet in
    comparing_is_exact K.variants (model K c.args.left.now) (model K c.args.right.now) (K.holds c.args.list) (g.met.S.VariantSet.within c.args.list)
