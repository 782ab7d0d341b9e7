-- Bytes as they are printed: each in base ten, with a space before it.
use Rattle.std.specs.Prelude.{ℕ, ◌∷◌, List}
use Rattle.std.specs.List.{flat_map}
use Rattle.std.specs.Fmt.{decimal}

abbrev pub spaced : ℕ → List ℕ
spaced b = 32 ∷ decimal b

abbrev pub listed : List ℕ → List ℕ
listed = flat_map spaced
