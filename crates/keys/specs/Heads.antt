-- Heads of keys: four bytes, q - 1, v1, o1, o2.
use Rattle.std.specs.Prelude.{ℕ, ◌+◌, not, List, [], ◌∷◌, length, Option, ◌==◌, nat_lt, slice_index}
use Rattle.fields.specs.Packing.{packed_length}
use Rattle.keys.specs.declared.shapes.Shape.{Shape}
use Rattle.keys.specs.declared.heads.Head.{Head}
use Rattle.keys.specs.declared.refusals.Refusal.TheVariants.{ShortHead, OtherField, OddShape}
use Rattle.keys.specs.Shapes.{within}
use Rattle.keys.specs.Refusals.{Told, test}

abbrev pub shape_of : List ℕ → Shape
shape_of key = record { v1 = slice_index key 1; o1 = slice_index key 2; o2 = slice_index key 3 }

abbrev pub head_of : List ℕ → Head
head_of key = record { shape = shape_of key; len = 4 }

abbrev pub head_tests : ℕ → List ℕ → List (Option Told)
head_tests q key = test (nat_lt (length key) 4) ShortHead ∷ test (not (slice_index key 0 + 1 == q)) OtherField ∷ test (not (within (shape_of key))) OddShape ∷ []

-- the length of a key of n codes after a head of h bytes
abbrev pub key_length : ℕ → ℕ → ℕ → ℕ
key_length h q n = h + packed_length q n
