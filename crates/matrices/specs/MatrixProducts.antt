-- Products of matrices that are stored row by row.
use Rattle.std.specs.Prelude.{◌≡◌, ℕ, ◌*◌, ◌<◌, ◌≤◌, Ok, Err, Result, List, length, ◌≢◌, slice_index}
use Rattle.algebra.specs.Rings.{Ring}
use Rattle.algebra.specs.Sums.{dot_of}
use Rattle.fields.specs.declared.packing.Misfit.{Misfit}
use Rattle.matrices.specs.Arrays.{entry}

-- The matrix a times the vector x, in new, which was old; Err exactly where a has not as many codes as that takes.
abbrev pub Applied : Ring → List ℕ → List ℕ → List ℕ → Result Unit Misfit → List ℕ → Type 0
Applied R a x old (Ok _) new = (length a ≡ length old * length x) × ((i : ℕ) → i < length old → slice_index new i ≡ dot_of R (length x) (entry a (length x) i) (λ j. slice_index x j))
Applied R a x old (Err _) new = (length a ≢ length old * length x) × (new ≡ old)

-- a has n rows of k codes, b has k rows of m, and there is room for n rows of m.
pub record Shapes (a b : List ℕ) (n k m room : ℕ) : Type 0 where
  pub left : length a ≡ n * k
  pub right : length b ≡ k * m
  pub out : room ≡ n * m

abbrev pub Multiplied : Ring → List ℕ → List ℕ → ℕ → ℕ → ℕ → List ℕ → Result Unit Misfit → List ℕ → Type 0
Multiplied R a b n k m old (Ok _) new = Shapes a b n k m (length old) × ((i j : ℕ) → i < n → j < m → entry new m i j ≡ dot_of R k (entry a k i) (λ t. entry b m t j))
Multiplied R a b n k m old (Err _) new = (Shapes a b n k m (length old) → ⊥) × (new ≡ old)

-- a has k rows of n codes, b has k rows of m, there is room for n rows of m, and k is at most 1024.
pub record TransposedShapes (a b : List ℕ) (n k m room : ℕ) : Type 0 where
  pub left : length a ≡ k * n
  pub right : length b ≡ k * m
  pub out : room ≡ n * m
  pub few : k ≤ 1024

-- The transpose of a times b, in new, which was old; Err exactly where the shapes do not fit.
abbrev pub TransposedMultiplied : Ring → List ℕ → List ℕ → ℕ → ℕ → ℕ → List ℕ → Result Unit Misfit → List ℕ → Type 0
TransposedMultiplied R a b n k m old (Ok _) new = TransposedShapes a b n k m (length old) × ((i j : ℕ) → i < n → j < m → entry new m i j ≡ dot_of R k (λ t. entry a n t i) (λ t. entry b m t j))
TransposedMultiplied R a b n k m old (Err _) new = (TransposedShapes a b n k m (length old) → ⊥) × (new ≡ old)
