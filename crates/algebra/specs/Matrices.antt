-- Matrices over codes, and the public quadratic forms of a central map between two linear maps.
use Rattle.std.specs.Prelude.{◌≡◌, ℕ, cond, ◌==◌, nat_lt}
use Rattle.algebra.specs.Rings.{Ring}
use Rattle.algebra.specs.Sums.{sum}
use Rattle.algebra.specs.Forms.{form_at}

-- The product of the matrices A, of n columns, and B.
unfoldable pub product : Ring → ℕ → (ℕ → ℕ → ℕ) → (ℕ → ℕ → ℕ) → ℕ → ℕ → ℕ
product R n A B i j = sum R n (λ k. R.mul (A i k) (B k j))

-- The matrix A, of n columns, times the vector x.
unfoldable pub applied : Ring → ℕ → (ℕ → ℕ → ℕ) → (ℕ → ℕ) → ℕ → ℕ
applied R n A x i = sum R n (λ j. R.mul (A i j) (x j))

-- The rows of A as columns.
unfoldable pub transposed : (ℕ → ℕ → ℕ) → ℕ → ℕ → ℕ
transposed A i j = A j i

-- The upper triangular matrix of A's form: each entry below the diagonal is added to its mirror above, and cleared.
unfoldable pub folded : Ring → (ℕ → ℕ → ℕ) → ℕ → ℕ → ℕ
folded R A i j = cond (nat_lt i j) (R.add (A i j) (A j i)) (cond (i == j) (A i j) 0)

-- The matrix of the form x ↦ F (T x): T transposed times F times T.
unfoldable pub pulled : Ring → ℕ → (ℕ → ℕ → ℕ) → (ℕ → ℕ → ℕ) → ℕ → ℕ → ℕ
pulled R n F T = product R n (transposed T) (product R n F T)

-- The matrix of the public form e, S being m by m, T being n by n and F f the matrix of the central form f.
unfoldable pub public_form : Ring → ℕ → ℕ → (ℕ → ℕ → ℕ) → (ℕ → ℕ → ℕ → ℕ) → (ℕ → ℕ → ℕ) → ℕ → ℕ → ℕ → ℕ
public_form R n m S F T e i j = sum R m (λ f. R.mul (S e f) (folded R (pulled R n (F f) T) i j))

-- The public forms at z are S times the central forms at T z.
abbrev pub PublicMap : Ring → Type 0
PublicMap R =
    (n m : ℕ) (S : ℕ → ℕ → ℕ) (F : ℕ → ℕ → ℕ → ℕ) (T : ℕ → ℕ → ℕ) (z : ℕ → ℕ) (e : ℕ)
    → form_at R n (public_form R n m S F T e) z ≡ sum R m (λ f. R.mul (S e f) (form_at R n (F f) (applied R n T z)))
