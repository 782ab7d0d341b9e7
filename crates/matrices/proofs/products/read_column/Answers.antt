use Rattle.std.proofs.Common.{◌≡◌, ℕ, ◌+◌, ◌-◌, ◌<◌, min, List, get_or, drop, take, set, sym, ap, subst, ◌∙◌, length, add-mul, one-mul, arith, rules}
use native.Mathlib.Decide.{dec_lt}
use Rattle.std.proofs.lemmas.List.{take_all, get_or_past, get_or-drop, length-drop}
use Rattle.std.proofs.lemmas.List.Edits.{fill_by_more}
use Rattle.matrices.specs.Arrays.{entry}
use Rattle.matrices.proofs.products.read_column.Goals as goal

-- what stands behind the next row
past_row : (rest : List ℕ) (m w k : ℕ) → m ≡ min w (length rest) → get_or (take (length rest - m) (drop m rest)) k 0 ≡ get_or rest (w + k) 0
past_row rest m w k e =
    let d = length-drop m rest in
    ap (λ xs. get_or xs k 0) (take_all (length rest - m) (drop m rest) (omega arith)) ∙ get_or-drop m rest k 0
    ∙ elim (dec_lt (length rest) w) [
      | yes l ↦ get_or_past rest (m + k) 0 (omega arith) ∙ sym (get_or_past rest (w + k) 0 (omega arith))
      | no l ↦ ap (λ t. get_or rest (t + k) 0) (omega arith)
    ]

pub loop-code-preserved : goal.loop-code-preserved
loop-code-preserved c =
    let i = c.loop-code.code-index in
    let w = c.args.width in
    let f : ℕ → ℕ = λ t. entry c.args.rows.now w t c.args.at in
    let s = add-mul i 1 w in
    let o = one-mul w in
    let read : c.unwrap_or.result ≡ get_or c.loop-code.rest.now c.args.at 0 = search rules in
    record {
      ahead = λ k. past_row c.loop-code.rest.now c.min.result w k c.min.ensures ∙ c.loop-code.invariant.ahead (w + k) ∙ ap (λ t. get_or c.args.rows.now t 0) (omega arith);
      done = subst (λ y. (t : ℕ) → t < i + 1 → get_or (set c.loop-code.column i y) t 0 ≡ f t) (sym (read ∙ c.loop-code.invariant.ahead c.args.at)) (fill_by_more f c.loop-code.column i 0 (omega arith) c.loop-code.invariant.done);
    }
