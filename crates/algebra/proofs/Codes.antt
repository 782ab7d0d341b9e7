-- The codes of a ring as a type of their own, a commutative ring with no condition on its laws. Assumes nothing.
use Rattle.std.proofs.Common.{◌≡◌, ℕ, zero, suc, ◌<◌, ◌≤◌, refl, ap, ◌∙◌, arith}
use mathlib.Core.HLevel.{Σ_prop_path}
use native.Mathlib.Bridge.{le_prop}
use native.Mathlib.Decide.{dec_lt}
use Rattle.algebra.specs.Commutative.{Commutative, total}
use Rattle.algebra.specs.Rings.{Ring, RingLaws}
use Rattle.algebra.specs.Sums.{sum}
use Rattle.algebra.proofs.Laws.{mul_nil}

abbrev pub Code : Ring → Type 0
Code R = (n : ℕ) × (n < R.q)

pub same : (R : Ring) (x y : Code R) → x.0 ≡ y.0 → x ≡ y
same R x y e = Σ_prop_path (λ (k : ℕ). le_prop {n = suc k} {m = R.q}) {u = x} {v = y} e

module _ (R : Ring) (L : RingLaws R) where
  pub nil_code : 0 < R.q
  nil_code = let h = L.q_low in omega arith

  pub one_code : 1 < R.q
  one_code = let h = L.q_low in omega arith

  abbrev pub codes : Commutative (Code R)
  codes = record {
    add = λ a b. (R.add a.0 b.0, L.add_code a.0 b.0);
    neg = λ a. (R.neg a.0, L.neg_code a.0);
    mul = λ a b. (R.mul a.0 b.0, L.mul_code a.0 b.0);
    nil = (0, nil_code);
    one = (1, one_code);
    add_comm = λ a b. same R _ _ (L.add_comm a.0 b.0);
    add_assoc = λ a b c. same R _ _ (L.add_assoc a.0 b.0 c.0 a.1 b.1 c.1);
    mul_comm = λ a b. same R _ _ (L.mul_comm a.0 b.0);
    mul_assoc = λ a b c. same R _ _ (L.mul_assoc a.0 b.0 c.0 a.1 b.1 c.1);
    mul_add = λ a b c. same R _ _ (L.mul_add a.0 b.0 c.0 a.1 b.1 c.1);
    add_nil = λ a. same R _ _ (L.add_zero a.0 a.1);
    mul_one = λ a. same R _ _ (L.mul_one a.0 a.1);
    add_neg = λ a. same R _ _ (L.add_neg a.0 a.1);
  }

  -- a number as a code: 0 for what is none, which no product tells apart
  pub code : ℕ → Code R
  code a = elim (dec_lt a R.q) [ yes h ↦ (a, h) | no h ↦ (0, nil_code) ]

  pub mul_zero : (a : ℕ) → R.mul a 0 ≡ 0
  mul_zero a =
      elim (dec_lt a R.q) [
        | yes h ↦ ap (λ t. t.0) (mul_nil codes (a, h))
        | no h ↦ L.mul_foreign a 0 (omega arith)
      ]

  pub zero_mul : (a : ℕ) → R.mul 0 a ≡ 0
  zero_mul a = L.mul_comm 0 a ∙ mul_zero a

  pub sum_code : (n : ℕ) (f : ℕ → ℕ) → sum R n f < R.q
  sum_code zero f = nil_code
  sum_code (suc n) f = L.add_code (sum R n f) (f n)

  -- a sum of codes is the sum in the ring of codes
  pub sum_total : (n : ℕ) (f : ℕ → Code R) → sum R n (λ i. (f i).0) ≡ (total codes n f).0
  unfolding total
  sum_total zero f = refl
  sum_total (suc n) f = ap (λ s. R.add s (f n).0) (sum_total n f)

  pub code_known : (a : ℕ) (h : a < R.q) → code a ≡ (a, h)
  unfolding code
  code_known a h = elim (dec_lt a R.q) as (λ d. ◌≡◌ {A = Code R} (elim d [ yes k ↦ (a, k) | no k ↦ (0, nil_code) ]) (a, h)) [
    | yes k ↦ same R _ _ refl
    | no k ↦ absurd (k h)
  ]

  pub code_foreign : (a : ℕ) → R.q ≤ a → code a ≡ (0, nil_code)
  unfolding code
  code_foreign a h = elim (dec_lt a R.q) as (λ d. ◌≡◌ {A = Code R} (elim d [ yes k ↦ (a, k) | no k ↦ (0, nil_code) ]) (0, nil_code)) [
    | yes k ↦ absurd (omega arith)
    | no k ↦ refl
  ]
