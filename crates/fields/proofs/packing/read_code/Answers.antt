use Rattle.std.proofs.Common.{ℕ, ◌/◌, ◌%◌, get_or, sym, ap, ◌∙◌, arith}
use Rattle.fields.proofs.Runs.{wide_at, narrow_at, half_low, half_high}
use Rattle.fields.proofs.packing.read_code.Goals as goal

pub returns-then-size-gt-TWO_A_BYTE : goal.returns-then-size-gt-TWO_A_BYTE
returns-then-size-gt-TWO_A_BYTE g c = c.byte_or_zero.ensures ∙ sym (wide_at _ c.args.run.now c.args.k (omega arith))

pub returns-then-k-eq0 : goal.returns-then-k-eq0
returns-then-k-eq0 g c =
    let run = c.args.run.now in
    let k = c.args.k in
    ap (λ (b : ℕ). b % 16) c.byte_or_zero-byte.ensures ∙ sym (narrow_at _ run k (omega arith) ∙ half_low k (get_or run (k / 2) 0) c.if-k-eq0.true)

pub returns-else-k-eq0 : goal.returns-else-k-eq0
returns-else-k-eq0 g c =
    let run = c.args.run.now in
    let k = c.args.k in
    ap (λ (b : ℕ). b / 16) c.byte_or_zero-byte.ensures ∙ sym (narrow_at _ run k (omega arith) ∙ half_high k (get_or run (k / 2) 0) c.if-k-eq0.false)
