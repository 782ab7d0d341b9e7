-- Products, sums, matrices and forms over codes are those of the ring of codes. Assumes nothing.
use Rattle.std.proofs.Common.{◌≡◌, ℕ, ◌<◌, ◌≤◌, sym, ap, ◌∙◌, ap₂, arith}
use mathlib.Core.Path.{fun_ext}
use native.Mathlib.Decide.{dec_lt}
use Rattle.algebra.specs.Commutative.{total, apply, value, times}
use Rattle.algebra.specs.Rings.{Ring, RingLaws}
use Rattle.algebra.specs.Sums.{sum}
use Rattle.algebra.specs.Forms.{form_at}
use Rattle.algebra.specs.Matrices.{product, applied}
use Rattle.algebra.proofs.Laws.{neg_nil}
use Rattle.algebra.proofs.Totals.{value_pairs}
use Rattle.algebra.proofs.Codes.{Code, codes, code, code_known, code_foreign, zero_mul, sum_total}

module _ (R : Ring) (L : RingLaws R) where
  -- a vector, and a matrix, as codes
  abbrev pub vector : (ℕ → ℕ) → ℕ → Code R
  vector x i = code R L (x i)

  abbrev pub matrix : (ℕ → ℕ → ℕ) → ℕ → ℕ → Code R
  matrix A i j = code R L (A i j)

  -- what is a code's number comes back as that code
  pub code_back : (a : ℕ) (x : Code R) → a ≡ x.0 → code R L a ≡ x
  code_back a x e = ap (code R L) e ∙ code_known R L x.0 x.1

  pub code_number : (a : ℕ) → a < R.q → (code R L a).0 ≡ a
  code_number a h = ap (λ t. t.0) (code_known R L a h)

  mul_left_code : (a b : ℕ) → R.mul a b ≡ R.mul (code R L a).0 b
  mul_left_code a b =
      elim (dec_lt a R.q) [
        | yes h ↦ ap (λ t. R.mul t b) (sym (code_number a h))
        | no h ↦ let k : R.q ≤ a = omega arith in L.mul_foreign a b k ∙ sym (zero_mul R L b) ∙ ap (λ t. R.mul t.0 b) (sym (code_foreign R L a k))
      ]

  pub mul_of : (a b : ℕ) → R.mul a b ≡ ((codes R L).mul (code R L a) (code R L b)).0
  mul_of a b =
      mul_left_code a b ∙ L.mul_comm (code R L a).0 b ∙ mul_left_code b (code R L a).0 ∙ L.mul_comm (code R L b).0 (code R L a).0

  pub neg_of : (a : ℕ) → R.neg a ≡ ((codes R L).neg (code R L a)).0
  neg_of a =
      elim (dec_lt a R.q) [
        | yes h ↦ ap R.neg (sym (code_number a h))
        | no h ↦ let k : R.q ≤ a = omega arith in L.neg_foreign a k ∙ sym (ap (λ t. t.0) (neg_nil (codes R L))) ∙ ap (λ t. R.neg t.0) (sym (code_foreign R L a k))
      ]

  pub add_of : (a b : ℕ) → a < R.q → b < R.q → R.add a b ≡ ((codes R L).add (code R L a) (code R L b)).0
  add_of a b h k = ap₂ R.add (sym (code_number a h)) (sym (code_number b k))

  pub sum_of : (n : ℕ) (f : ℕ → ℕ) (g : ℕ → Code R) → ((i : ℕ) → f i ≡ (g i).0) → sum R n f ≡ (total (codes R L) n g).0
  sum_of n f g h = ap (sum R n) (fun_ext h) ∙ sum_total R L n g

  -- a product of a number and a code
  pub mul_by : (a b : ℕ) (y : Code R) → b ≡ y.0 → R.mul a b ≡ ((codes R L).mul (code R L a) y).0
  mul_by a b y e = mul_of a b ∙ ap (λ t. ((codes R L).mul (code R L a) t).0) (code_back b y e)

  pub applied_of : (n : ℕ) (A : ℕ → ℕ → ℕ) (x : ℕ → ℕ) (i : ℕ) → applied R n A x i ≡ (apply (codes R L) n (matrix A) (vector x) i).0
  unfolding applied apply
  applied_of n A x i = sum_of n _ _ (λ j. mul_of (A i j) (x j))

  pub applied_vector : (n : ℕ) (A : ℕ → ℕ → ℕ) (x : ℕ → ℕ) → vector (applied R n A x) ≡ apply (codes R L) n (matrix A) (vector x)
  applied_vector n A x = fun_ext (λ i. code_back _ _ (applied_of n A x i))

  pub product_matrix : (n : ℕ) (A B : ℕ → ℕ → ℕ) → matrix (product R n A B) ≡ times (codes R L) n (matrix A) (matrix B)
  unfolding product times
  product_matrix n A B = fun_ext (λ i. fun_ext (λ j. code_back _ _ (sum_of n _ _ (λ k. mul_of (A i k) (B k j)))))

  pub form_of : (n : ℕ) (F : ℕ → ℕ → ℕ) (x : ℕ → ℕ) → form_at R n F x ≡ (value (codes R L) n (matrix F) (vector x)).0
  form_of n F x =
      sum_of n _ _ (λ i. sum_of n _ _ (λ j. mul_by (F i j) _ ((codes R L).mul (vector x i) (vector x j)) (mul_of (x i) (x j))))
      ∙ ap (λ t. t.0) (sym (value_pairs (codes R L) n (matrix F) (vector x)))
