-- Square matrices written row by row. Assumes nothing.
use Rattle.std.proofs.Common.{◌≡◌, ℕ, ◌+◌, ◌*◌, ◌<◌, ◌≤◌, ◌⊎◌, List, length, get_or, sym, ◌∙◌, subst, arith}
use native.Mathlib.Decide.{dec_lt}
use borrow.Rule.Slice.PartMut.{put_mid}
use Rattle.std.specs.List.{between}
use Rattle.std.proofs.lemmas.List.Edits.{length-between}
use Rattle.matrices.specs.Arrays.{entry, Written}
use Rattle.matrices.proofs.RowWrites.{put_written, row_off}

-- row i of the matrix is written
pub fill_more : (P : ℕ → ℕ → ℕ → Type 0) (old row : List ℕ) (i n w : ℕ) → w ≡ n → i * n + n ≤ length old → length row ≡ length (between (i * n) (i * n + n) old) → ((j : ℕ) → j < length (between (i * n) (i * n + n) old) → P i j (get_or row j 0)) → ((r j : ℕ) → r < i → j < n → P r j (entry old n r j)) → (r j : ℕ) → r < i + 1 → j < n → P r j (entry (put_mid (i * n) w old row) n r j)
fill_more P old row i n w e lo lr h was r j l g =
    elim (dec_lt r i) [
      | yes s ↦ subst (P r j) (sym (W.rest (r * n + j) (subst (λ k. (r * n + j < i * n) ⊎ (i * n + k ≤ r * n + j)) (sym e) (row_off r i n j (λ t. omega arith) g)))) (was r j s g)
      | no s ↦ let q : r ≡ i = omega arith in
          subst (λ t. P t j (entry (put_mid (i * n) w old row) n t j)) (sym q) (subst (P i j) (sym (W.here j (omega arith))) (h j (omega (arith, len))))
    ]
  where
    len : length (between (i * n) (i * n + n) old) ≡ n
    len = length-between old (i * n) (i * n + n) lo ∙ omega arith

    W : Written old (put_mid (i * n) w old row) w (i * n) (λ t. get_or row t 0)
    W = put_written old row (i * n) w (omega arith) (lr ∙ len ∙ sym e)
