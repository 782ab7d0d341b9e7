-- Sums over codes that agree term by term. Assumes nothing.
use Rattle.std.proofs.Common.{◌≡◌, ℕ, zero, suc, ◌<◌, ◌≤◌, sym, refl, ap, ◌∙◌, ap₂, arith}
use native.Mathlib.Decide.{dec_lt}
use Rattle.algebra.specs.Rings.{Ring, RingLaws}
use Rattle.algebra.specs.Sums.{sum}
use Rattle.algebra.specs.Forms.{form_at}
use Rattle.algebra.proofs.Codes.{nil_code}

module _ (R : Ring) where
  pub sum_ext : (n : ℕ) (f g : ℕ → ℕ) → ((i : ℕ) → i < n → f i ≡ g i) → sum R n f ≡ sum R n g
  sum_ext zero f g h = refl
  sum_ext (suc n) f g h = ap₂ R.add (sum_ext n f g (λ i l. h i (omega arith))) (h n (omega arith))

  pub form_ext : (n : ℕ) (F : ℕ → ℕ → ℕ) (x y : ℕ → ℕ) → ((i : ℕ) → i < n → x i ≡ y i) → form_at R n F x ≡ form_at R n F y
  form_ext n F x y h = sum_ext n _ _ (λ i l. sum_ext n _ _ (λ j k. ap₂ (λ s t. R.mul (F i j) (R.mul s t)) (h i l) (h j k)))

  -- a form's value is that of its entries below n
  pub form_entries : (n : ℕ) (P Q : ℕ → ℕ → ℕ) (x : ℕ → ℕ) → ((i j : ℕ) → i < n → j < n → P i j ≡ Q i j) → form_at R n P x ≡ form_at R n Q x
  form_entries n P Q x h = sum_ext n _ _ (λ i l. sum_ext n _ _ (λ j k. ap (λ s. R.mul s (R.mul (x i) (x j))) (h i j l k)))

  -- upper triangular matrices that agree on and above the diagonal have the same form
  pub form_upper : (n : ℕ) (P Q : ℕ → ℕ → ℕ) (x : ℕ → ℕ) → ((i j : ℕ) → i ≤ j → j < n → P i j ≡ Q i j) → ((i j : ℕ) → j < i → i < n → P i j ≡ 0) → ((i j : ℕ) → j < i → i < n → Q i j ≡ 0) → form_at R n P x ≡ form_at R n Q x
  form_upper n P Q x h p q =
      form_entries n P Q x (λ i j l k. elim (dec_lt j i) [ yes d ↦ p i j d l ∙ sym (q i j d l) | no d ↦ h i j (omega arith) k ])

-- a sum of zeros
pub sum_zeros : (R : Ring) (L : RingLaws R) (n : ℕ) (f : ℕ → ℕ) → ((k : ℕ) → k < n → f k ≡ 0) → sum R n f ≡ 0
sum_zeros R L zero f h = refl
sum_zeros R L (suc n) f h = ap₂ R.add (sum_zeros R L n f (λ k l. h k (omega arith))) (h n (omega arith)) ∙ L.add_zero 0 (nil_code R L)
