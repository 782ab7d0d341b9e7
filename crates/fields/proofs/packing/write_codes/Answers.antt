use Rattle.std.proofs.Common.{◌≡◌, ℕ, ◌+◌, ◌*◌, ◌%◌, ◌<◌, length, get_or, sym, ap, ◌∙◌, arith}
use Rattle.std.proofs.lemmas.List.Edits.{fill_by_more}
use Rattle.std.proofs.lemmas.List.{ext_get_or}
use Rattle.fields.specs.Packing.{packed_length, in_pairs}
use Rattle.fields.proofs.Runs.{wide_length, narrow_length, wide_packed, narrow_packed, pair_at_lem, length_pairs}
use Rattle.fields.proofs.packing.write_codes.Goals as goal

pub copy_from_slice-requires : goal.copy_from_slice-requires
copy_from_slice-requires g c = let e = wide_length c.size-q.result (length c.args.codes.now) (omega arith) in omega arith

pub returns-then-q-gt-TWO_A_BYTE : goal.returns-then-q-gt-TWO_A_BYTE
returns-then-q-gt-TWO_A_BYTE g c =
    let q = (g.R.Ring.ring c.args.ring.now).q in
    (c.if-run-packed_len.false ∙ c.packed_len.ensures.value ∙ ap (λ (p : ℕ). packed_length p (length c.args.codes.now)) c.size-q.ensures, c.copy_from_slice.ensures.after ∙ sym (wide_packed q c.args.codes.now (omega arith)))

pub bounds-codes-i : goal.bounds-codes-i
bounds-codes-i g c = let e = narrow_length c.size-q.result (length c.args.codes.now) (omega arith) in omega arith

pub loop-i-preserved : goal.loop-i-preserved
loop-i-preserved g c =
    let codes = c.args.codes.now in
    let i = c.loop-i.i in
    let lt : i < length c.loop-i.run = omega arith in
    let put : get_or codes (2 * i) 0 % 16 + 16 * (c.byte_or_zero-high.result % 16) ≡ get_or (in_pairs codes) i 0 = ap (λ (h : ℕ). get_or codes (2 * i) 0 % 16 + 16 * (h % 16)) c.byte_or_zero-high.ensures ∙ sym (pair_at_lem codes i) in
    rw put (fill_by_more (λ (j : ℕ). get_or (in_pairs codes) j 0) c.loop-i.run i 0 lt c.loop-i.invariant)

pub returns : goal.returns
returns g c =
    let q = (g.R.Ring.ring c.args.ring.now).q in
    let codes = c.args.codes.now in
    let e = narrow_length c.size-q.result (length codes) (omega arith) in
    let l : length c.loop-i.run ≡ length (in_pairs codes) = let n = length_pairs codes in omega arith in
    (c.if-run-packed_len.false ∙ c.packed_len.ensures.value ∙ ap (λ (p : ℕ). packed_length p (length codes)) c.size-q.ensures, ext_get_or 0 c.loop-i.run (in_pairs codes) l (λ k h. c.loop-i.invariant k (omega arith)) ∙ sym (narrow_packed q codes (omega arith)))
