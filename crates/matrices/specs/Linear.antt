-- What elimination, inversion and solving answer. A is the left n columns of the n rows of n + m codes in old, and B the other m.
use Rattle.std.specs.Prelude.{◌≡◌, ℕ, ◌+◌, ◌*◌, ◌<◌, ◌≤◌, ◌⊎◌, List, length, Some, None, Ok, Err, Option, Result, ◌≢◌}
use Rattle.algebra.specs.Rings.{Ring}
use Rattle.algebra.specs.Systems.{Vector, Solves, Singular, Regular, FirstDependent, Solution, Inverse, unit_matrix}
use Rattle.matrices.specs.declared.elimination.Dependent.{Dependent}
use Rattle.matrices.specs.declared.elimination.Lead.{Lead}
use Rattle.matrices.specs.Arrays.{entry, Codes, Foreign}

-- A row from row s on that is not zero in column c, with the inverse of what stands there.
pub record Found (R : Ring) (rows : List ℕ) (n w c s : ℕ) (p : Lead) : Type 0 where
  pub low : s ≤ p.row
  pub high : p.row < n
  pub inverse : R.mul (entry rows w p.row c) p.inverse ≡ 1
  pub code : p.inverse < R.q

-- None exactly where the column is 0 from row s on.
abbrev pub Pivoted : Ring → List ℕ → ℕ → ℕ → ℕ → ℕ → Option Lead → Type 0
Pivoted R rows n w c s (Some p) = Found R rows n w c s p
Pivoted R rows n w c s None = (i : ℕ) → s ≤ i → i < n → entry rows w i c ≡ 0

-- n rows of n + m codes
pub record Fits (R : Ring) (rows : List ℕ) (n m : ℕ) : Type 0 where
  pub places : length rows ≡ n * (n + m)
  pub codes : Codes R rows

-- Another length, or some byte that is no code.
abbrev pub Misfit : Ring → List ℕ → ℕ → ℕ → Type 0
Misfit R rows n m = (length rows ≢ n * (n + m)) ⊎ Foreign R rows

-- The left block of new is the unit matrix, its right block the one X with A X = B.
pub record Solved (R : Ring) (old : List ℕ) (n m : ℕ) (new : List ℕ) : Type 0 where
  pub codes : Codes R new
  pub left : (i j : ℕ) → i < n → j < n → entry new (n + m) i j ≡ unit_matrix i j
  pub right : Solution R n m (entry old (n + m)) (λ i k. entry old (n + m) i (n + k)) (λ i k. entry new (n + m) i (n + k))

-- What is answered for rows that fit: a fault is the first column, counted from 1, that depends on those before it.
abbrev pub Reduced : Ring → List ℕ → ℕ → ℕ → Result Unit Dependent → List ℕ → Type 0
Reduced R old n m (Ok _) new = Solved R old n m new
Reduced R old n m (Err e) new = FirstDependent R n (entry old (n + m)) e.column × Codes R new

-- None exactly where the rows do not fit, which leaves them as they were.
abbrev pub Eliminated : Ring → List ℕ → ℕ → ℕ → Option (Result Unit Dependent) → List ℕ → Type 0
Eliminated R old n m None new = Misfit R old n m × (new ≡ old)
Eliminated R old n m (Some r) new = Fits R old n m × Reduced R old n m r new

-- The contract leaves one answer, and, but where columns depend on each other, one array.
abbrev pub Alike : ℕ → ℕ → Option (Result Unit Dependent) → List ℕ → List ℕ → Type 0
Alike n m None a b = a ≡ b
Alike n m (Some (Ok _)) a b = (i j : ℕ) → i < n → j < n + m → entry a (n + m) i j ≡ entry b (n + m) i j
Alike n m (Some (Err _)) a b = Unit {0}

abbrev pub Determined : Ring → Type 0
Determined R = (old : List ℕ) (n m : ℕ) (r s : Option (Result Unit Dependent)) (a b : List ℕ) → Eliminated R old n m r a → Eliminated R old n m s b → (r ≡ s) × Alike n m r a b

-- A system is solved exactly where its matrix is not singular.
abbrev pub Told : Ring → ℕ → (ℕ → ℕ → ℕ) → Result Unit Dependent → Type 0
Told R n A (Ok _) = Singular R n A → ⊥
Told R n A (Err _) = Singular R n A

abbrev pub FaultsAreSingular : Ring → Type 0
FaultsAreSingular R = (old : List ℕ) (n m : ℕ) (r : Result Unit Dependent) (new : List ℕ) → Eliminated R old n m (Some r) new → Told R n (entry old (n + m)) r

-- The system is n rows of n codes, there is room to work, and for the inverse.
pub record InverseFits (R : Ring) (system : List ℕ) (n lent out : ℕ) : Type 0 where
  pub places : length system ≡ n * n
  pub codes : Codes R system
  pub work : 2 * (n * n) ≤ lent
  pub room : out ≡ n * n

-- new is the inverse of the system.
pub record Inverted (R : Ring) (system : List ℕ) (n : ℕ) (new : List ℕ) : Type 0 where
  pub codes : Codes R new
  pub inverse : Inverse R n (entry system n) (entry new n)

-- None exactly where something does not fit; new is old but where the system is inverted.
abbrev pub Inverts : Ring → List ℕ → ℕ → ℕ → List ℕ → Option (Result Unit Dependent) → List ℕ → Type 0
Inverts R system n work old None new = (InverseFits R system n work (length old) → ⊥) × (new ≡ old)
Inverts R system n work old (Some (Ok _)) new = InverseFits R system n work (length old) × Inverted R system n new
Inverts R system n work old (Some (Err e)) new = InverseFits R system n work (length old) × (FirstDependent R n (entry system n) e.column × (new ≡ old))

-- n rows of n + n places, and as many of n beside them
pub record Room (rows : List ℕ) (n out : ℕ) : Type 0 where
  pub places : length rows ≡ n * (n + n)
  pub inverse : out ≡ n * n

-- The left block is codes.
abbrev pub LeftCodes : Ring → List ℕ → ℕ → Type 0
LeftCodes R rows n = (i j : ℕ) → i < n → j < n → entry rows (n + n) i j < R.q

-- There is room, and the left block is codes.
pub record LeftFits (R : Ring) (rows : List ℕ) (n out : ℕ) : Type 0 where
  pub room : Room rows n out
  pub codes : LeftCodes R rows n

-- new is the inverse of the left block.
pub record LeftInverted (R : Ring) (rows : List ℕ) (n : ℕ) (new : List ℕ) : Type 0 where
  pub codes : Codes R new
  pub inverse : Inverse R n (entry rows (n + n)) (entry new n)

-- None exactly where something does not fit; new is old but where the left block is inverted.
abbrev pub LeftInverts : Ring → List ℕ → ℕ → List ℕ → Option (Result Unit Dependent) → List ℕ → Type 0
LeftInverts R rows n old None new = (LeftFits R rows n (length old) → ⊥) × (new ≡ old)
LeftInverts R rows n old (Some (Ok _)) new = LeftFits R rows n (length old) × LeftInverted R rows n new
LeftInverts R rows n old (Some (Err e)) new = LeftFits R rows n (length old) × (FirstDependent R n (entry rows (n + n)) e.column × (new ≡ old))

-- The last column of new is the one x with A x = b, where b is the last column of old.
pub record Solving (R : Ring) (old : List ℕ) (n : ℕ) (new : List ℕ) : Type 0 where
  pub codes : Vector R n (λ j. entry new (n + 1) j n)
  pub solves : Solves R n (entry old (n + 1)) (λ i. entry old (n + 1) i n) (λ j. entry new (n + 1) j n)
  pub only : (y : ℕ → ℕ) → Vector R n y → Solves R n (entry old (n + 1)) (λ i. entry old (n + 1) i n) y → (j : ℕ) → j < n → y j ≡ entry new (n + 1) j n
  pub regular : Regular R n (entry old (n + 1))

abbrev pub SolvesOne : Ring → List ℕ → ℕ → Option (Result Unit Dependent) → List ℕ → Type 0
SolvesOne R old n None new = Misfit R old n 1 × (new ≡ old)
SolvesOne R old n (Some (Ok _)) new = Fits R old n 1 × Solving R old n new
SolvesOne R old n (Some (Err e)) new = Fits R old n 1 × FirstDependent R n (entry old (n + 1)) e.column
