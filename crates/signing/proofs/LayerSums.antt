-- The sums that a layer's system is made of, term by term. Assumes nothing.
use Rattle.std.proofs.Common.{◌≡◌, ℕ, ◌+◌, ◌<◌, List, length, get_or, sym, ap, ◌∙◌, ap₂, add-one, arith}
use native.Mathlib.Decide.{dec_lt}
use Rattle.std.proofs.lemmas.Bool.{cond-false}
use Rattle.std.proofs.lemmas.Bool.Decides.{nat_tests}
use Rattle.std.proofs.lemmas.List.{get_or_past}
use Rattle.algebra.specs.Rings.{Ring, RingLaws}
use Rattle.algebra.specs.Sums.{sum}
use Rattle.algebra.proofs.Codes.{nil_code, zero_mul}
use Rattle.fields.specs.Rows.{plus_times}
use Rattle.fields.proofs.Additions.{get_or_plus}
use Rattle.matrices.proofs.Terms.{sum_more, sum_start}
use Rattle.keys.specs.declared.shapes.Shape.{Shape}
use Rattle.maps.specs.SecretKeys.{has_term, central}

-- no term has its second variable before its first
pub central_below : (q : ℕ) (run : List ℕ) (s : Shape) (f i j : ℕ) → j < i → central q run s f i j ≡ 0
unfolding central
central_below q run s f i j h = cond-false (has_term s f i j) _ _ (grind (arith, nat_tests))

module _ (R : Ring) (L : RingLaws R) where
  -- what the pairs of x(i) with values before it give
  pub pairs_start : (F : ℕ → ℕ → ℕ → ℕ) (x : List ℕ) (r i v : ℕ) → ((j : ℕ) → j < i → F r i j ≡ 0) → v < R.q → v ≡ R.add v (sum R i (λ j. R.mul (F r i j) (R.mul (get_or x i 0) (get_or x j 0))))
  pairs_start F x r i v h c = sum_start R L v i _ c (λ j l. ap (λ t. R.mul t (R.mul (get_or x i 0) (get_or x j 0))) (h j l) ∙ zero_mul R L _)

  -- one pair more
  pub pairs_more : (F : ℕ → ℕ → ℕ → ℕ) (x : List ℕ) (r i j v t : ℕ) (cur row new : List ℕ) → new ≡ plus_times R t cur row → r < length cur → r < length row → t ≡ R.mul (get_or x i 0) (get_or x j 0) → get_or row r 0 ≡ F r i j → v < R.q → get_or cur r 0 ≡ R.add v (sum R j (λ k. R.mul (F r i k) (R.mul (get_or x i 0) (get_or x k 0)))) → get_or new r 0 ≡ R.add v (sum R (j + 1) (λ k. R.mul (F r i k) (R.mul (get_or x i 0) (get_or x k 0))))
  pairs_more F x r i j v t cur row new e lc lr et er hv h =
      ap (λ zs. get_or zs r 0) e ∙ get_or_plus R t cur row r lc lr
      ∙ ap₂ R.add h (ap₂ R.mul et er ∙ L.mul_comm _ _)
      ∙ sum_more R L v j (λ k. R.mul (F r i k) (R.mul (get_or x i 0) (get_or x k 0))) hv (L.mul_code _ _)
      ∙ ap (λ n. R.add v (sum R n (λ k. R.mul (F r i k) (R.mul (get_or x i 0) (get_or x k 0))))) (sym (add-one j))

  -- one value more in a column
  pub column_sum : (f : ℕ → ℕ) (x : List ℕ) (r i : ℕ) (cur row new : List ℕ) → new ≡ plus_times R (get_or x i 0) cur row → r < length cur → r < length row → get_or row r 0 ≡ f i → get_or cur r 0 ≡ sum R i (λ k. R.mul (f k) (get_or x k 0)) → get_or new r 0 ≡ sum R (i + 1) (λ k. R.mul (f k) (get_or x k 0))
  column_sum f x r i cur row new e lc lr er h =
      ap (λ zs. get_or zs r 0) e ∙ get_or_plus R (get_or x i 0) cur row r lc lr ∙ ap₂ R.add h (ap (R.mul (get_or x i 0)) er ∙ L.mul_comm _ _)
      ∙ ap (λ n. sum R n (λ k. R.mul (f k) (get_or x k 0))) (sym (add-one i))

  -- sums are codes, and so is what stands past the end
  pub all_codes : (n : ℕ) (xs : List ℕ) (f : ℕ → ℕ) → length xs ≡ n → ((r : ℕ) → r < n → get_or xs r 0 ≡ f r) → ((r : ℕ) → f r < R.q) → (r : ℕ) → get_or xs r 0 < R.q
  all_codes n xs f e h k r =
      elim (dec_lt r n) [
        | yes l ↦ let p = h r l in let q = k r in omega arith
        | no l ↦ let p = get_or_past xs r 0 (omega arith) in let z = nil_code R L in omega arith
      ]
