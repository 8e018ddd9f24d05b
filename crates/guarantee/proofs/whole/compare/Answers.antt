use Rattle.guarantee.proofs.Wholes.{own_run_ok, own_run_settles, compares}
use Rattle.guarantee.proofs.whole.compare.Goals as goal

pub unwrap-sweeps-requires : goal.unwrap-sweeps-requires
unwrap-sweeps-requires g c =
    let b = c.begin-comparison.ensures in
    let r = c.run.ensures in
    own_run_ok g.S.VariantSet _ _ _ _ c.requires.narrow _ _ b.begins b.promises _ r.does r.leaves

pub settle-requires : goal.settle-requires
settle-requires g c =
    let b = c.begin-comparison.ensures in
    let r = c.run.ensures in
    own_run_settles g.S.VariantSet _ _ _ _ c.requires.narrow _ _ b.begins b.promises _ r.does r.leaves _ _ c.unwrap-sweeps.ensures

pub returns : goal.returns
returns g c =
    let b = c.begin-comparison.ensures in
    let r = c.run.ensures in
    let s = c.settle.ensures in
    compares g.S.VariantSet _ _ _ _ c.requires.narrow _ _ b.begins b.promises _ r.does r.leaves _ _ c.unwrap-sweeps.ensures _ s.settles s.table
