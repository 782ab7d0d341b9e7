-- Commutative rings over any type, with sums and quadratic forms over one.
use Rattle.std.specs.Prelude.{◌≡◌, ℕ, zero, suc}

pub record Commutative (A : Type 0) : Type 0 where
  pub add : A → A → A
  pub neg : A → A
  pub mul : A → A → A
  pub nil : A
  pub one : A
  pub add_comm : (a b : A) → add a b ≡ add b a
  pub add_assoc : (a b c : A) → add (add a b) c ≡ add a (add b c)
  pub mul_comm : (a b : A) → mul a b ≡ mul b a
  pub mul_assoc : (a b c : A) → mul (mul a b) c ≡ mul a (mul b c)
  pub mul_add : (a b c : A) → mul a (add b c) ≡ add (mul a b) (mul a c)
  pub add_nil : (a : A) → add a nil ≡ a
  pub mul_one : (a : A) → mul a one ≡ a
  pub add_neg : (a : A) → add a (neg a) ≡ nil

module _ {A : Type 0} (S : Commutative A) where
  -- f 0 + .. + f (n - 1)
  unfoldable pub total : ℕ → (ℕ → A) → A
  total zero f = S.nil
  total (suc n) f = S.add (total n f) (f n)

  -- the matrix M, of n columns, times the vector x
  unfoldable pub apply : ℕ → (ℕ → ℕ → A) → (ℕ → A) → ℕ → A
  apply n M x i = total n (λ j. S.mul (M i j) (x j))

  unfoldable pub dot : ℕ → (ℕ → A) → (ℕ → A) → A
  dot n x y = total n (λ i. S.mul (x i) (y i))

  -- the value at x of the quadratic form with matrix F
  unfoldable pub value : ℕ → (ℕ → ℕ → A) → (ℕ → A) → A
  value n F x = dot n x (apply n F x)

  -- the product of the matrices M, of n columns, and N
  unfoldable pub times : ℕ → (ℕ → ℕ → A) → (ℕ → ℕ → A) → ℕ → ℕ → A
  times n M N i j = total n (λ k. S.mul (M i k) (N k j))

  unfoldable pub transposed : (ℕ → ℕ → A) → ℕ → ℕ → A
  transposed M i j = M j i
