use Rattle.std.proofs.Common.{◌≡◌, ◌<◌, inl, inr, arith}
use Rattle.std.proofs.lemmas.Bool.{lt-ltb}
use Rattle.theory.specs.Calls.{asked, ask_no_pair, ask_no_variant}
use Rattle.comparing.proofs.Comparison.ask.Goals.{then-s-rows-via-then-s-rows, then-s-rows-via-else-s-rows+then-t-cols}
use Rattle.comparing.proofs.Comparison.ask.Goals as goal

pub returns-then-s-rows : goal.returns-then-s-rows
returns-then-s-rows g c m same narrow =
    elim c.then-s-rows.branch [
      | then-s-rows-via-then-s-rows w ↦ ask_no_pair (inl (omega arith))
      | then-s-rows-via-else-s-rows+then-t-cols w ↦ ask_no_pair (inr (omega arith))
    ]

pub returns-then-v-size : goal.returns-then-v-size
returns-then-v-size g c m same narrow = ask_no_variant (omega arith) (omega arith) (omega arith)

pub returns : goal.returns
returns g c m same narrow =
    let K = g.S.VariantSet in
    let s = c.args.s in
    let t = c.args.t in
    let v = c.args.v in
    let below : v < K.variants = omega arith in
    let few : v < 1024 = omega arith in
    let is : c.has.result ≡ m.table s t v = rw (c.has.ensures, same, lt-ltb v 1024 few) (c.at.ensures v) in
    rw is (asked {s = s} {t = t} {v = v} (omega arith) (omega arith) below)
