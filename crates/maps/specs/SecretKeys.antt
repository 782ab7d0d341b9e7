-- Secret keys: after the head one packed run, the blocks S', T1, T4, T3 of the masks, each column by column, then the coefficients of the layers.
use Rattle.std.specs.Prelude.{◌≡◌, ℕ, zero, suc, ◌+◌, ◌-◌, ◌*◌, ◌<◌, Bool, cond, ◌&&◌, List, Ok, Err, Result, length, ◌==◌, ◌≢◌, nat_le, nat_lt, slice_index}
use Rattle.algebra.specs.Rings.{Ring}
use Rattle.algebra.specs.Matrices.{applied}
use Rattle.algebra.specs.Masks.{mask_s, mask_t, negated, second_of, Inverse}
use Rattle.fields.specs.Packing.{code_at}
use Rattle.matrices.specs.QuadraticSystems.{pairs, pair_at}
use Rattle.keys.specs.declared.shapes.Shape.{Shape}
use Rattle.keys.specs.Shapes.{variables, equations, layer_start}
use Rattle.fields.specs.declared.packing.Misfit.{Misfit}
use Rattle.maps.specs.declared.blocks.Block.{Block}
use Rattle.maps.specs.declared.blocks.Block.TheVariants.{S, T1, T4, T3}
use Rattle.maps.specs.declared.masks.Part.{Part}
use Rattle.maps.specs.declared.masks.Part.TheVariants.{Unit as Fixed, In, Corner}
use Rattle.maps.specs.declared.mask_backs.Mask.{Mask}
use Rattle.maps.specs.declared.mask_backs.Mask.TheVariants.{Outer, Inner}

-- the entry i, j of a block of so many rows that begins at a place of the run
unfoldable pub block : ℕ → List ℕ → ℕ → ℕ → ℕ → ℕ → ℕ
block q run start rows i j = code_at q run (start + j * rows + i)

-- where a block begins, and how many rows and columns it has
abbrev pub block_start : Shape → Block → ℕ
block_start s S = 0
block_start s T1 = s.o1 * s.o2
block_start s T4 = s.o1 * s.o2 + s.v1 * s.o1
block_start s T3 = s.o1 * s.o2 + s.v1 * s.o1 + s.v1 * s.o2

abbrev pub block_rows : Shape → Block → ℕ
block_rows s S = s.o1
block_rows s T1 = s.v1
block_rows s T4 = s.v1
block_rows s T3 = s.o1

abbrev pub block_columns : Shape → Block → ℕ
block_columns s S = s.o2
block_columns s T1 = s.o1
block_columns s T4 = s.o2
block_columns s T3 = s.o2

abbrev pub block_of : ℕ → List ℕ → Shape → Block → ℕ → ℕ → ℕ
block_of q run s b = block q run (block_start s b) (block_rows s b)

abbrev pub block_s : ℕ → List ℕ → Shape → ℕ → ℕ → ℕ
block_s q run s = block_of q run s S

abbrev pub block_t1 : ℕ → List ℕ → Shape → ℕ → ℕ → ℕ
block_t1 q run s = block_of q run s T1

abbrev pub block_t4 : ℕ → List ℕ → Shape → ℕ → ℕ → ℕ
block_t4 q run s = block_of q run s T4

abbrev pub block_t3 : ℕ → List ℕ → Shape → ℕ → ℕ → ℕ
block_t3 q run s = block_of q run s T3

-- S, m by m, and T, n by n, with T2 = T1 T3 - T4
unfoldable pub outer_mask : Ring → List ℕ → Shape → ℕ → ℕ → ℕ
outer_mask R run s = mask_s s.o1 (block_s R.q run s)

unfoldable pub inner_mask : Ring → List ℕ → Shape → ℕ → ℕ → ℕ
inner_mask R run s = mask_t s.v1 s.o1 (block_t1 R.q run s) (second_of R s.o1 (block_t1 R.q run s) (block_t3 R.q run s) (block_t4 R.q run s)) (block_t3 R.q run s)

-- their inverses: -S' in place of S', and -T1, T4, -T3 above the diagonal
unfoldable pub outer_inverse : Ring → List ℕ → Shape → ℕ → ℕ → ℕ
outer_inverse R run s = mask_s s.o1 (negated R (block_s R.q run s))

unfoldable pub inner_inverse : Ring → List ℕ → Shape → ℕ → ℕ → ℕ
inner_inverse R run s = mask_t s.v1 s.o1 (negated R (block_t1 R.q run s)) (block_t4 R.q run s) (negated R (block_t3 R.q run s))

-- an entry for each block, row and column
abbrev pub Blocks : Type 0
Blocks = Block → ℕ → ℕ → ℕ

-- a mask with such blocks and such a corner
abbrev pub outer_with : Shape → Blocks → (ℕ → ℕ → ℕ) → ℕ → ℕ → ℕ
outer_with s B C = mask_s s.o1 (B S)

abbrev pub inner_with : Shape → Blocks → (ℕ → ℕ → ℕ) → ℕ → ℕ → ℕ
inner_with s B C = mask_t s.v1 s.o1 (B T1) C (B T3)

abbrev pub mask_with : Mask → Shape → Blocks → (ℕ → ℕ → ℕ) → ℕ → ℕ → ℕ
mask_with Outer = outer_with
mask_with Inner = inner_with

-- what a part of it is
abbrev pub placed : Blocks → (ℕ → ℕ → ℕ) → Part → ℕ
placed B C (Fixed c) = c
placed B C (In b i j) = B b i j
placed B C (Corner i j) = C i j

-- a part within its block or the corner
abbrev pub PartInside : Shape → Part → Type 0
PartInside s (Fixed c) = Unit {0}
PartInside s (In b i j) = (i < block_rows s b) × (j < block_columns s b)
PartInside s (Corner i j) = (i < s.v1) × (j < s.o2)

-- a mask
abbrev pub mask_of : Mask → Ring → List ℕ → Shape → ℕ → ℕ → ℕ
mask_of Outer = outer_mask
mask_of Inner = inner_mask

-- its inverse, and its side
abbrev pub mask_inverse : Mask → Ring → List ℕ → Shape → ℕ → ℕ → ℕ
mask_inverse Outer = outer_inverse
mask_inverse Inner = inner_inverse

abbrev pub mask_side : Mask → Shape → ℕ
mask_side Outer = equations
mask_side Inner = variables

-- What bringing a vector back answers, and leaves in the result: an error exactly where a vector has not the mask's side.
abbrev pub BroughtBack : Ring → List ℕ → Shape → Mask → List ℕ → List ℕ → Result Unit Misfit → List ℕ → Type 0
BroughtBack R run s k x old (Ok _) new = ((length x ≡ mask_side k s) × (length old ≡ mask_side k s)) × ((i : ℕ) → i < mask_side k s → slice_index new i ≡ applied R (mask_side k s) (mask_inverse k R run s) (λ j. slice_index x j) i)
BroughtBack R run s k x old (Err _) new = (length x ≡ mask_side k s → length old ≢ mask_side k s) × (new ≡ old)

-- The two masks of every secret key are undone by these, on either side.
pub record MasksUndone (R : Ring) (run : List ℕ) (s : Shape) : Type 0 where
  pub outer : Inverse R (equations s) (outer_mask R run s) (outer_inverse R run s)
  pub inner : Inverse R (variables s) (inner_mask R run s) (inner_inverse R run s)

abbrev pub EveryMaskUndone : Ring → Type 0
EveryMaskUndone R = (run : List ℕ) (s : Shape) → MasksUndone R run s

-- The variables are in groups: group 0 is V1, group l the oil variables of layer l.
abbrev pub group_size : Shape → ℕ → ℕ
group_size s zero = s.v1
group_size s (suc zero) = s.o1
group_size s (suc (suc k)) = s.o2

-- how many variables the groups before one have, and those up to it
abbrev pub group_start : Shape → ℕ → ℕ
group_start s zero = 0
group_start s (suc zero) = s.v1
group_start s (suc (suc k)) = s.v1 + s.o1

abbrev pub group_end : Shape → ℕ → ℕ
group_end s k = group_start s k + group_size s k

abbrev pub group_of : Shape → ℕ → ℕ
group_of s i = cond (nat_lt i s.v1) 0 (cond (nat_lt i (s.v1 + s.o1)) 1 2)

-- equation f, from 0, is in layer 1 or 2; its number within the layer, from 0
abbrev pub layer_of : Shape → ℕ → ℕ
layer_of s f = cond (nat_lt f s.o1) 1 2

abbrev pub in_layer : Shape → ℕ → ℕ
in_layer s f = cond (nat_lt f s.o1) f (f - s.o1)

-- Layer l has the terms x(i) x(j), i ≤ j, with j in a group up to l and i in one before l.
-- They run by the group of i, then of j; a part within one group by its pairs i ≤ j, any other by i, then j.
-- how many terms of layer l have i in a group before a
unfoldable pub terms_before : Shape → ℕ → ℕ → ℕ
terms_before s l zero = 0
terms_before s l (suc a) = terms_before s l a + (pairs (group_size s a) + group_size s a * (group_end s l - group_end s a))

-- the place of a term among those of its layer, i being in group a and j in group b
unfoldable pub term_place : Shape → ℕ → ℕ → ℕ → ℕ → ℕ → ℕ
term_place s l a b i j =
    terms_before s l a
    + cond (a == b) (pair_at (group_size s a) (i - group_start s a) (j - group_start s a))
    (pairs (group_size s a) + group_size s a * (group_start s b - group_end s a) + (i - group_start s a) * group_size s b + (j - group_start s b))

abbrev pub in_terms : Shape → ℕ → ℕ → ℕ → Bool
in_terms s l i j = nat_le i j && (nat_le (group_of s j) l && nat_lt (group_of s i) l)

abbrev pub has_term : Shape → ℕ → ℕ → ℕ → Bool
has_term s f i j = nat_le i j && (nat_le (group_of s j) (layer_of s f) && nat_lt (group_of s i) (layer_of s f))

-- where the coefficient of x(i) x(j) in the central equation f stands in the run
unfoldable pub central_place : Shape → ℕ → ℕ → ℕ → ℕ
central_place s f i j =
    layer_start s (layer_of s f) + term_place s (layer_of s f) (group_of s i) (group_of s j) i j * group_size s (layer_of s f) + in_layer s f

-- the coefficient of x(i) x(j) in the central equation f, all counted from 0
unfoldable pub central : ℕ → List ℕ → Shape → ℕ → ℕ → ℕ → ℕ
central q run s f i j = cond (has_term s f i j) (code_at q run (central_place s f i j)) 0

-- equation r of layer l, among all
abbrev pub equation_of : Shape → ℕ → ℕ → ℕ
equation_of s l r = cond (nat_le l 1) r (s.o1 + r)

-- The codes of x(i) x(j) in the equations of layer l, one for each; an error exactly where there is no such layer or variable or the row has another length.
pub record RowFits (s : Shape) (l j len : ℕ) : Type 0 where
  pub low : 0 < l
  pub high : l < 3
  pub inside : j < variables s
  pub room : len ≡ group_size s l

abbrev pub LayerRow : ℕ → List ℕ → Shape → ℕ → ℕ → ℕ → List ℕ → Result Unit Misfit → List ℕ → Type 0
LayerRow q run s l i j old (Ok _) new = RowFits s l j (length old) × ((r : ℕ) → r < group_size s l → slice_index new r ≡ central q run s (equation_of s l r) i j)
LayerRow q run s l i j old (Err _) new = (RowFits s l j (length old) → ⊥) × (new ≡ old)
