use Rattle.std.proofs.Common.{◌≡◌, ℕ, ◌+◌, ◌/◌, ◌%◌, ◌<◌, min, List, length, drop, ap, ◌∙◌, arith}
use Rattle.std.proofs.lemmas.List.Edits.{fill_by_more}
use Rattle.std.proofs.lemmas.List.FromFn.{fill_by_all}
use Rattle.std.proofs.lemmas.List.{take_rest}
use Rattle.fields.specs.Packing.{code_at, codes_from}
use Rattle.fields.proofs.Runs.{rest_wide, rest_narrow}
use Rattle.fields.proofs.packing.read_codes.Goals as goal
use Rattle.fields.proofs.packing.read_codes.Goals.{then-size-gt-TWO_A_BYTE, else-size-gt-TWO_A_BYTE}

pub loop-i-preserved : goal.loop-i-preserved
loop-i-preserved g c =
    let q = (g.R.Ring.ring c.args.ring.now).q in
    let run = c.args.run.now in
    let from = c.args.from in
    let i = c.loop-i.i in
    let per = c.if-size-gt-TWO_A_BYTE.per_byte in
    let lt : i < length c.loop-i.codes = omega arith in
    let rest : c.read_code.result ≡ code_at q (drop (min (length run) (from / per)) run) (from % per + i) =
    c.read_code.ensures ∙ ap (λ (xs : List ℕ). code_at q xs (from % per + i)) (take_rest run c.min-start.result ∙ ap (λ (n : ℕ). drop n run) c.min-start.ensures) in
    let back : code_at q (drop (min (length run) (from / per)) run) (from % per + i) ≡ code_at q run (from + i) =
    elim c.if-size-gt-TWO_A_BYTE.branch [
      | then-size-gt-TWO_A_BYTE w ↦ rw w.per_byte-is (rest_wide q run from i (omega arith))
      | else-size-gt-TWO_A_BYTE w ↦ rw w.per_byte-is (rest_narrow q run from i (omega arith))
    ] in
    rw (rest ∙ back) (fill_by_more (λ (j : ℕ). code_at q run (from + j)) c.loop-i.codes i 0 lt c.loop-i.invariant)

pub returns : goal.returns
unfolding codes_from
returns g c =
    let q = (g.R.Ring.ring c.args.ring.now).q in
    fill_by_all (λ (j : ℕ). code_at q c.args.run.now (c.args.from + j)) c.loop-i.codes (length c.args.codes.now) 0 c.loop-i.auto.codes (λ k h. c.loop-i.invariant k (omega arith))
