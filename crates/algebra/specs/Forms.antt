-- Quadratic forms over codes.
use Rattle.std.specs.Prelude.{ℕ}
use Rattle.algebra.specs.Rings.{Ring}
use Rattle.algebra.specs.Sums.{sum}

-- The value at x of the form in n variables whose coefficient of x(i) x(j) is F i j.
abbrev pub form_at : Ring → ℕ → (ℕ → ℕ → ℕ) → (ℕ → ℕ) → ℕ
form_at R n F x = sum R n (λ i. sum R n (λ j. R.mul (F i j) (R.mul (x i) (x j))))
