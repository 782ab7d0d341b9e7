-- Square systems of equations over codes, vectors and matrices being functions of the index.
use Rattle.std.specs.Prelude.{◌≡◌, ℕ, ◌<◌, ◌≤◌, cond, ◌==◌, ◌≢◌}
use Rattle.algebra.specs.Rings.{Ring}
use Rattle.algebra.specs.Sums.{dot_of}

-- x is n codes.
abbrev pub Vector : Ring → ℕ → (ℕ → ℕ) → Type 0
Vector R n x = (j : ℕ) → j < n → x j < R.q

-- x is 0 from place c on.
abbrev pub ZeroFrom : ℕ → ℕ → (ℕ → ℕ) → Type 0
ZeroFrom c n x = (j : ℕ) → c ≤ j → j < n → x j ≡ 0

-- A x = b, for n equations in n unknowns.
abbrev pub Solves : Ring → ℕ → (ℕ → ℕ → ℕ) → (ℕ → ℕ) → (ℕ → ℕ) → Type 0
Solves R n A b x = (i : ℕ) → i < n → dot_of R n (A i) x ≡ b i

-- A x = 0
abbrev pub Annuls : Ring → ℕ → (ℕ → ℕ → ℕ) → (ℕ → ℕ) → Type 0
Annuls R n A x = Solves R n A (λ _. 0) x

-- the unit matrix
unfoldable pub unit_matrix : ℕ → ℕ → ℕ
unit_matrix i j = cond (i == j) 1 0

-- A x = 0 for some x, of n codes, that is not 0.
pub record Singular (R : Ring) (n : ℕ) (A : ℕ → ℕ → ℕ) : Type 0 where
  pub vector : ℕ → ℕ
  pub codes : Vector R n vector
  pub some : (j : ℕ) × ((j < n) × (vector j ≢ 0))
  pub annuls : Annuls R n A vector

-- A x = 0 for x = 0 alone.
abbrev pub Regular : Ring → ℕ → (ℕ → ℕ → ℕ) → Type 0
Regular R n A = (x : ℕ → ℕ) → Vector R n x → Annuls R n A x → (j : ℕ) → j < n → x j ≡ 0

-- The first c columns of A depend on each other, as vector says, and for no smaller d do the first d.
pub record FirstDependent (R : Ring) (n : ℕ) (A : ℕ → ℕ → ℕ) (c : ℕ) : Type 0 where
  pub low : 1 ≤ c
  pub high : c ≤ n
  pub vector : ℕ → ℕ
  pub codes : Vector R n vector
  pub some : (j : ℕ) × ((j < c) × (vector j ≢ 0))
  pub past : ZeroFrom c n vector
  pub annuls : Annuls R n A vector
  pub first : (d : ℕ) → d < c → (x : ℕ → ℕ) → Vector R n x → ZeroFrom d n x → Annuls R n A x → (j : ℕ) → j < n → x j ≡ 0

-- X, of m columns, is the one solution of A X = B.
pub record Solution (R : Ring) (n m : ℕ) (A B X : ℕ → ℕ → ℕ) : Type 0 where
  pub codes : (k : ℕ) → k < m → Vector R n (λ j. X j k)
  pub solves : (k : ℕ) → k < m → Solves R n A (λ i. B i k) (λ j. X j k)
  pub only : (k : ℕ) → k < m → (y : ℕ → ℕ) → Vector R n y → Solves R n A (λ i. B i k) y → (j : ℕ) → j < n → y j ≡ X j k
  pub regular : Regular R n A

-- A X = 1 and X A = 1
pub record Inverse (R : Ring) (n : ℕ) (A X : ℕ → ℕ → ℕ) : Type 0 where
  pub codes : (i j : ℕ) → i < n → j < n → X i j < R.q
  pub right : (i j : ℕ) → i < n → j < n → dot_of R n (A i) (λ k. X k j) ≡ unit_matrix i j
  pub left : (i j : ℕ) → i < n → j < n → dot_of R n (X i) (λ k. A k j) ≡ unit_matrix i j
