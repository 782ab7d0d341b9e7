-- What a ring and a field are: a number q, functions over codes, the numbers below q, and the laws that these keep.
use Rattle.std.specs.Prelude.{◌≡◌, ℕ, ◌<◌, ◌≤◌, cond, Some, None, Option, ◌≢◌, nat_lt}

-- The meaning of a ring: q and its functions.
pub record Ring : Type 0 where
  pub q : ℕ
  pub add : ℕ → ℕ → ℕ
  pub neg : ℕ → ℕ
  pub mul : ℕ → ℕ → ℕ

-- Every function answers a code, and 0 where an argument is no code; on codes the laws of a commutative ring hold.
pub record RingLaws (R : Ring) : Type 0 where
  pub q_low : 2 ≤ R.q
  pub q_high : R.q ≤ 256
  pub add_code : (a b : ℕ) → R.add a b < R.q
  pub neg_code : (a : ℕ) → R.neg a < R.q
  pub mul_code : (a b : ℕ) → R.mul a b < R.q
  pub add_foreign : (a b : ℕ) → R.q ≤ a → R.add a b ≡ 0
  pub neg_foreign : (a : ℕ) → R.q ≤ a → R.neg a ≡ 0
  pub mul_foreign : (a b : ℕ) → R.q ≤ a → R.mul a b ≡ 0
  pub add_comm : (a b : ℕ) → R.add a b ≡ R.add b a
  pub mul_comm : (a b : ℕ) → R.mul a b ≡ R.mul b a
  pub add_assoc : (a b c : ℕ) → a < R.q → b < R.q → c < R.q → R.add (R.add a b) c ≡ R.add a (R.add b c)
  pub mul_assoc : (a b c : ℕ) → a < R.q → b < R.q → c < R.q → R.mul (R.mul a b) c ≡ R.mul a (R.mul b c)
  pub mul_add : (a b c : ℕ) → a < R.q → b < R.q → c < R.q → R.mul a (R.add b c) ≡ R.add (R.mul a b) (R.mul a c)
  pub add_zero : (a : ℕ) → a < R.q → R.add a 0 ≡ a
  pub mul_one : (a : ℕ) → a < R.q → R.mul a 1 ≡ a
  pub add_neg : (a : ℕ) → a < R.q → R.add a (R.neg a) ≡ 0

-- What inverse answers: none exactly for 0 and for what is no code, else a code whose product with a is 1.
pub record IsInverse (R : Ring) (a : ℕ) (r : Option ℕ) : Type 0 where
  pub none_zero : a ≡ 0 → r ≡ None
  pub none_foreign : R.q ≤ a → r ≡ None
  pub some : (a ≢ 0) → a < R.q → (b : ℕ) × (r ≡ Some b) × (b < R.q) × (R.mul a b ≡ 1)

-- A function of codes, with 0 where an argument is no code.
abbrev pub on_code : ℕ → (ℕ → ℕ) → ℕ → ℕ
on_code q f a = cond (nat_lt a q) (f a) 0

abbrev pub on_codes : ℕ → (ℕ → ℕ → ℕ) → ℕ → ℕ → ℕ
on_codes q f a b = cond (nat_lt a q) (cond (nat_lt b q) (f a b) 0) 0

abbrev pub ring_of : ℕ → (ℕ → ℕ → ℕ) → (ℕ → ℕ) → (ℕ → ℕ → ℕ) → Ring
ring_of q f n m = record { q = q; add = on_codes q f; neg = on_code q n; mul = on_codes q m }
