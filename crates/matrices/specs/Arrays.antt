-- Matrices stored row by row, and what a change of a run of codes does, place by place.
use Rattle.std.specs.Prelude.{◌≡◌, ℕ, ◌+◌, ◌*◌, ◌<◌, ◌≤◌, Bool, true, false, ◌⊎◌, List, length, ◌≢◌, slice_index}
use Rattle.algebra.specs.Rings.{Ring}
use Rattle.algebra.specs.Systems.{unit_matrix}

-- What stands in row i at column j of rows of w codes, stored row by row.
abbrev pub entry : List ℕ → ℕ → ℕ → ℕ → ℕ
entry rows w i j = slice_index rows (i * w + j)

-- column is the column c of the first n rows of w codes.
abbrev pub ColumnOf : List ℕ → ℕ → ℕ → ℕ → List ℕ → Type 0
ColumnOf rows w c n column = (t : ℕ) → t < n → slice_index column t ≡ entry rows w t c

-- Every byte is a code; past the end stands 0, which is one.
abbrev pub Codes : Ring → List ℕ → Type 0
Codes R rows = (k : ℕ) → slice_index rows k < R.q

-- Some byte is no code.
abbrev pub Foreign : Ring → List ℕ → Type 0
Foreign R rows = (k : ℕ) × ((k < length rows) × (R.q ≤ slice_index rows k))

abbrev pub Sifted : Ring → List ℕ → Bool → Type 0
Sifted R rows true = Codes R rows
Sifted R rows false = Foreign R rows

-- m is none of the w places from a on.
abbrev pub Off : ℕ → ℕ → ℕ → Type 0
Off a w m = (m < a) ⊎ (a + w ≤ m)

-- The w places from a on have no place with the w places from b on in common.
abbrev pub Apart : ℕ → ℕ → ℕ → Type 0
Apart a b w = (a + w ≤ b) ⊎ (b + w ≤ a)

-- The w places from a on hold v 0, v 1, .., and every other place holds what it held.
pub record Written (old new : List ℕ) (w a : ℕ) (v : ℕ → ℕ) : Type 0 where
  pub here : (k : ℕ) → k < w → slice_index new (a + k) ≡ v k
  pub rest : (m : ℕ) → Off a w m → slice_index new m ≡ slice_index old m

-- The w places from a on and the w places from b on have changed places.
pub record Swapped (old new : List ℕ) (w a b : ℕ) : Type 0 where
  pub one : (k : ℕ) → k < w → slice_index new (a + k) ≡ slice_index old (b + k)
  pub two : (k : ℕ) → k < w → slice_index new (b + k) ≡ slice_index old (a + k)
  pub rest : (m : ℕ) → Off a w m → Off b w m → slice_index new m ≡ slice_index old m

-- To the w places from a on, f times the w places from b on is added.
abbrev pub Added : Ring → List ℕ → List ℕ → ℕ → ℕ → ℕ → ℕ → Type 0
Added R old new w a b f = Written old new w a (λ k. R.add (slice_index old (a + k)) (R.mul f (slice_index old (b + k))))

-- Of the first t rows each but row c has had its entry in column c, times row c, taken away.
pub record Cleared (R : Ring) (old new : List ℕ) (t w c : ℕ) : Type 0 where
  pub here : (j : ℕ) → j < w → entry new w c j ≡ entry old w c j
  pub other : (i j : ℕ) → i < t → j < w → (i ≢ c) → entry new w i j ≡ R.add (entry old w i j) (R.mul (R.neg (entry old w i c)) (entry old w c j))
  pub later : (i j : ℕ) → t ≤ i → j < w → entry new w i j ≡ entry old w i j
  pub codes : Codes R old → Codes R new

-- The left blocks of the first t rows of new, of n + n places each, are the first t rows of a, of n.
abbrev pub LeftFrom : List ℕ → List ℕ → ℕ → ℕ → Type 0
LeftFrom a new n t = (i j : ℕ) → i < t → j < n → entry new (n + n) i j ≡ entry a n i j

-- In rows of n + n codes the left blocks are as they were, and the first t rows of the right block are the unit matrix's.
pub record UnitsBeside (old new : List ℕ) (n t : ℕ) : Type 0 where
  pub left : (i j : ℕ) → j < n → entry new (n + n) i j ≡ entry old (n + n) i j
  pub right : (i k : ℕ) → i < t → k < n → entry new (n + n) i (n + k) ≡ unit_matrix i k

-- The first t rows of new are those of the right block of n rows of n + n codes.
abbrev pub RightOf : List ℕ → List ℕ → ℕ → ℕ → Type 0
RightOf rows new n t = (i k : ℕ) → i < t → k < n → entry new n i k ≡ entry rows (n + n) i (n + k)
