-- The linear systems of a secret key's layers. The run is the key's after its head; rows, columns and variables are counted from 0, layers from 1.
use Rattle.std.specs.Prelude.{◌≡◌, ℕ, ◌*◌, ◌<◌, ◌≤◌, Ok, Err, Result, List, length, ◌≢◌, slice_index}
use Rattle.algebra.specs.Rings.{Ring}
use Rattle.algebra.specs.Sums.{sum}
use Rattle.algebra.specs.Layers.{layer_entry, layer_constant}
use Rattle.fields.specs.declared.packing.Misfit.{Misfit}
use Rattle.matrices.specs.Arrays.{entry}
use Rattle.keys.specs.declared.shapes.Shape.{Shape}
use Rattle.maps.specs.SecretKeys.{group_size, group_start, central, equation_of}

-- the coefficients of the equations of layer l, by their numbers in the layer
abbrev pub layer_forms : ℕ → List ℕ → Shape → ℕ → ℕ → ℕ → ℕ → ℕ
layer_forms q run s l r = central q run s (equation_of s l r)

-- the system of layer l at x, the values of the variables before the layer's own: row r, column c is the coefficient of the layer's variable c in its equation r
abbrev pub system_entry : Ring → List ℕ → Shape → ℕ → (ℕ → ℕ) → ℕ → ℕ → ℕ
system_entry R run s l = layer_entry R (group_start s l) (layer_forms R.q run s l)

-- its constants: what the pairs of the variables before the layer's own give at x
abbrev pub system_constant : Ring → List ℕ → Shape → ℕ → (ℕ → ℕ) → ℕ → ℕ
system_constant R run s l = layer_constant R (group_start s l) (layer_forms R.q run s l)

-- what the pairs of x(i) with all values give in equation r of the forms F
abbrev pub pairs_from : Ring → (ℕ → ℕ → ℕ → ℕ) → List ℕ → ℕ → ℕ → ℕ
pairs_from R F x r i = sum R (length x) (λ j. R.mul (F r i j) (R.mul (slice_index x i) (slice_index x j)))

-- Column c of the first t rows of a width holds v, and all other places of those rows are as they were.
pub record ColumnPut (width c t : ℕ) (v : ℕ → ℕ) (old new : List ℕ) : Type 0 where
  pub here : (r : ℕ) → r < t → entry new width r c ≡ v r
  pub other : (r j : ℕ) → j < width → (j ≢ c) → entry new width r j ≡ entry old width r j

-- a layer of at most 1024 equations, and values for the variables before its own
pub record LayerAt (s : Shape) (l : ℕ) (x : List ℕ) : Type 0 where
  pub low : 0 < l
  pub high : l < 3
  pub few : group_size s l ≤ 1024
  pub values : length x ≡ group_start s l

-- The constants, one for each equation; a misfit exactly where there is no such layer, or a length does not fit.
abbrev pub ConstantsFormed : Ring → List ℕ → Shape → ℕ → List ℕ → List ℕ → Result Unit Misfit → List ℕ → Type 0
ConstantsFormed R run s l x old (Ok _) new = (LayerAt s l x × (length old ≡ group_size s l)) × ((r : ℕ) → r < group_size s l → slice_index new r ≡ system_constant R run s l (λ i. slice_index x i) r)
ConstantsFormed R run s l x old (Err _) new = (LayerAt s l x → length old ≢ group_size s l) × (new ≡ old)

-- rows of a width that has place for the layer's columns
pub record RowsAt (s : Shape) (l width len : ℕ) : Type 0 where
  pub wide : group_size s l ≤ width
  pub rows : len ≡ group_size s l * width

-- In rows of any width the first columns are the layer's system, and all other places are as they were.
pub record SystemIn (R : Ring) (run : List ℕ) (s : Shape) (l : ℕ) (x : ℕ → ℕ) (width : ℕ) (old new : List ℕ) : Type 0 where
  pub entries : (r c : ℕ) → r < group_size s l → c < group_size s l → entry new width r c ≡ system_entry R run s l x r c
  pub rest : (r c : ℕ) → r < group_size s l → group_size s l ≤ c → c < width → entry new width r c ≡ entry old width r c

abbrev pub SystemFormed : Ring → List ℕ → Shape → ℕ → List ℕ → ℕ → List ℕ → Result Unit Misfit → List ℕ → Type 0
SystemFormed R run s l x width old (Ok _) new = (LayerAt s l x × RowsAt s l width (length old)) × SystemIn R run s l (λ i. slice_index x i) width old new
SystemFormed R run s l x width old (Err _) new = (LayerAt s l x → RowsAt s l width (length old) → ⊥) × (new ≡ old)
