-- The public forms of a central map between two linear maps. Assumes nothing.
use Rattle.std.proofs.Common.{◌≡◌, ℕ, ◌<◌, Bool, true, false, cond, eqb, ltb, sym, refl, ap, ◌∙◌, arith, le-ltb, ne_eqb}
use mathlib.Core.Path.{fun_ext}
use Rattle.algebra.specs.Commutative.{total, value, times}
use Rattle.algebra.specs.Commutative.{transposed as turned}
use Rattle.algebra.specs.Rings.{Ring, RingLaws}
use Rattle.algebra.specs.Matrices.{product, applied, transposed, folded, pulled, public_form, PublicMap}
use Rattle.algebra.proofs.Totals.{total_nil, value_pulled}
use Rattle.algebra.proofs.Codes.{Code, codes, code, mul_zero, sum_code}
use Rattle.algebra.proofs.Folds.{fold, value_fold, value_combined}
use Rattle.algebra.proofs.Bridge.{vector, matrix, code_back, code_number, mul_by, add_of, sum_of, applied_vector, product_matrix, form_of}

module _ (R : Ring) (L : RingLaws R) where
  folded_of : (P : ℕ → ℕ → ℕ) → ((i j : ℕ) → P i j < R.q) → (i j : ℕ) → folded R P i j ≡ (fold (codes R L) (matrix R L P) i j).0
  unfolding folded fold
  folded_of P h i j = go (ltb i j) (eqb i j)
    where
      M : ℕ → ℕ → Code R
      M = matrix R L P

      go : (b c : Bool) → cond b (R.add (P i j) (P j i)) (cond c (P i j) 0) ≡ (cond b ((codes R L).add (M i j) (M j i)) (cond c (M i j) (codes R L).nil)).0
      go true c = add_of R L (P i j) (P j i) (h i j) (h j i)
      go false true = sym (code_number R L (P i j) (h i j))
      go false false = refl

  pulled_code : (n : ℕ) (F T : ℕ → ℕ → ℕ) (i j : ℕ) → pulled R n F T i j < R.q
  unfolding pulled product
  pulled_code n F T i j = sum_code R L n _

  pulled_matrix : (n : ℕ) (F T : ℕ → ℕ → ℕ) → matrix R L (pulled R n F T) ≡ times (codes R L) n (turned (codes R L) (matrix R L T)) (times (codes R L) n (matrix R L F) (matrix R L T))
  unfolding pulled transposed turned
  pulled_matrix n F T =
      product_matrix R L n (transposed T) (product R n F T)
      ∙ ap (times (codes R L) n (turned (codes R L) (matrix R L T))) (product_matrix R L n F T)

  -- the matrix of the public form e, over the ring of codes
  public_matrix : (n m : ℕ) (S : ℕ → ℕ → ℕ) (F : ℕ → ℕ → ℕ → ℕ) (T : ℕ → ℕ → ℕ) (e : ℕ) → matrix R L (public_form R n m S F T e) ≡ (λ i j. total (codes R L) m (λ f. (codes R L).mul (code R L (S e f)) (fold (codes R L) (matrix R L (pulled R n (F f) T)) i j)))
  unfolding public_form
  public_matrix n m S F T e =
      fun_ext (λ i. fun_ext (λ j. code_back R L _ _ (sum_of R L m _ _ (λ f. mul_by R L (S e f) _ (fold (codes R L) (matrix R L (pulled R n (F f) T)) i j) (folded_of (pulled R n (F f) T) (pulled_code n (F f) T) i j)))))

  pulled_value : (n : ℕ) (F T : ℕ → ℕ → ℕ) (z : ℕ → ℕ) → value (codes R L) n (fold (codes R L) (matrix R L (pulled R n F T))) (vector R L z) ≡ value (codes R L) n (matrix R L F) (vector R L (applied R n T z))
  pulled_value n F T z =
      value_fold (codes R L) n (matrix R L (pulled R n F T)) (vector R L z)
      ∙ ap (λ M. value (codes R L) n M (vector R L z)) (pulled_matrix n F T)
      ∙ value_pulled (codes R L) n (matrix R L F) (matrix R L T) (vector R L z)
      ∙ ap (value (codes R L) n (matrix R L F)) (sym (applied_vector R L n T z))

  pub public_map_lem : PublicMap R
  public_map_lem n m S F T z e =
      form_of R L n (public_form R n m S F T e) z
      ∙ ap (λ M. (value (codes R L) n M (vector R L z)).0) (public_matrix n m S F T e)
      ∙ ap (λ t. t.0) (value_combined (codes R L) n m (λ f. code R L (S e f)) (λ f. fold (codes R L) (matrix R L (pulled R n (F f) T))) (vector R L z))
      ∙ sym (sum_of R L m _ _ (λ f. mul_by R L (S e f) _ (value (codes R L) n (fold (codes R L) (matrix R L (pulled R n (F f) T))) (vector R L z)) (form_of R L n (F f) (applied R n T z) ∙ ap (λ t. t.0) (sym (pulled_value n (F f) T z)))))

  -- the public matrices are upper triangular
  pub public_upper : (n m : ℕ) (S : ℕ → ℕ → ℕ) (F : ℕ → ℕ → ℕ → ℕ) (T : ℕ → ℕ → ℕ) (e i j : ℕ) → j < i → public_form R n m S F T e i j ≡ 0
  unfolding public_form folded
  public_upper n m S F T e i j h =
      sum_of R L m _ (λ _. (codes R L).nil) (λ f. rw (le-ltb i j (omega arith), ne_eqb i j (λ q. absurd (omega arith))) (mul_zero R L (S e f)))
      ∙ ap (λ t. t.0) (total_nil (codes R L) m)
