-- Rows of codes.
use Rattle.std.specs.Prelude.{ℕ, List, [], ◌∷◌}
use Rattle.algebra.specs.Rings.{Ring}

-- The row xs with t times the row ys added, as far as both reach.
abbrev pub plus_times : Ring → ℕ → List ℕ → List ℕ → List ℕ
plus_times R t [] ys = []
plus_times R t (x ∷ xs) [] = x ∷ xs
plus_times R t (x ∷ xs) (y ∷ ys) = R.add x (R.mul t y) ∷ plus_times R t xs ys
