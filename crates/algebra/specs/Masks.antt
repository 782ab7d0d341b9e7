-- Unit upper triangular matrices given by their blocks above the diagonal, and their inverses.
use Rattle.std.specs.Prelude.{◌≡◌, ℕ, ◌+◌, ◌-◌, ◌<◌, cond, ◌==◌, nat_lt}
use Rattle.algebra.specs.Rings.{Ring}
use Rattle.algebra.specs.Sums.{sum}
use Rattle.algebra.specs.Matrices.{applied}

-- The identity, with the block B in the first o1 rows and the columns from o1 on.
unfoldable pub mask_s : ℕ → (ℕ → ℕ → ℕ) → ℕ → ℕ → ℕ
mask_s o1 B e f = cond (e == f) 1 (cond (nat_lt e o1) (cond (nat_lt f o1) 0 (B e (f - o1))) 0)

-- The identity, with T1 in the first v1 rows and the o1 columns from v1 on, T2 in the columns after those, and T3 in the next o1 rows, under T2.
unfoldable pub mask_t : ℕ → ℕ → (ℕ → ℕ → ℕ) → (ℕ → ℕ → ℕ) → (ℕ → ℕ → ℕ) → ℕ → ℕ → ℕ
mask_t v1 o1 T1 T2 T3 i j =
    cond (i == j) 1 (cond (nat_lt i v1)
    (cond (nat_lt j v1) 0 (cond (nat_lt j (v1 + o1)) (T1 i (j - v1)) (T2 i (j - (v1 + o1)))))
    (cond (nat_lt i (v1 + o1)) (cond (nat_lt j (v1 + o1)) 0 (T3 (i - v1) (j - (v1 + o1)))) 0))

-- The matrix of the negatives of B's entries.
unfoldable pub negated : Ring → (ℕ → ℕ → ℕ) → ℕ → ℕ → ℕ
negated R B i j = R.neg (B i j)

-- T1 times T3 less T4, T1 being of o1 columns.
unfoldable pub second_of : Ring → ℕ → (ℕ → ℕ → ℕ) → (ℕ → ℕ → ℕ) → (ℕ → ℕ → ℕ) → ℕ → ℕ → ℕ
second_of R o1 T1 T3 T4 i j = R.add (sum R o1 (λ k. R.mul (T1 i k) (T3 k j))) (R.neg (T4 i j))

-- M after N is the identity on the vectors of n codes.
abbrev pub Undoes : Ring → ℕ → (ℕ → ℕ → ℕ) → (ℕ → ℕ → ℕ) → Type 0
Undoes R n M N =
    (y : ℕ → ℕ) → ((i : ℕ) → i < n → y i < R.q) → (i : ℕ) → i < n → applied R n M (applied R n N y) i ≡ y i

-- M and N are inverse to each other.
pub record Inverse (R : Ring) (n : ℕ) (M N : ℕ → ℕ → ℕ) : Type 0 where
  pub after : Undoes R n M N
  pub before : Undoes R n N M

-- The inverse has the negated block.
abbrev pub MaskSInverse : Ring → Type 0
MaskSInverse R = (o1 o2 : ℕ) (B : ℕ → ℕ → ℕ) → Inverse R (o1 + o2) (mask_s o1 B) (mask_s o1 (negated R B))

-- With T2 = T1 T3 - T4 the inverse has the blocks -T1, T4 and -T3.
abbrev pub MaskTInverse : Ring → Type 0
MaskTInverse R =
    (v1 o1 o2 : ℕ) (T1 T3 T4 : ℕ → ℕ → ℕ)
    → Inverse R (v1 + o1 + o2) (mask_t v1 o1 T1 (second_of R o1 T1 T3 T4) T3) (mask_t v1 o1 (negated R T1) T4 (negated R T3))
