-- Sums over codes, vectors and matrices being functions of the index.
use Rattle.std.specs.Prelude.{ℕ, zero, suc}
use Rattle.algebra.specs.Rings.{Ring}

-- f 0 + .. + f (n - 1)
abbrev pub sum : Ring → ℕ → (ℕ → ℕ) → ℕ
sum R zero f = 0
sum R (suc n) f = R.add (sum R n f) (f n)

-- x 0 * y 0 + .. + x (n - 1) * y (n - 1)
abbrev pub dot_of : Ring → ℕ → (ℕ → ℕ) → (ℕ → ℕ) → ℕ
dot_of R n x y = sum R n (λ i. R.mul (x i) (y i))
