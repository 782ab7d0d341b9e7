-- The integers modulo m.
use Rattle.std.specs.Prelude.{ℕ, ◌+◌, ◌-◌, ◌*◌, ◌%◌, cond, List, [], ◌∷◌, Some, None, Option, nat_lt, slice_index}
use Rattle.algebra.specs.Rings.{Ring, ring_of}

abbrev pub modular : ℕ → Ring
modular m = ring_of m (λ a b. (a + b) % m) (λ a. (m - a) % m) (λ a b. a * b % m)

abbrev pub inverses31 : List ℕ
inverses31 = 0 ∷ 1 ∷ 16 ∷ 21 ∷ 8 ∷ 25 ∷ 26 ∷ 9 ∷ 4 ∷ 7 ∷ 28 ∷ 17 ∷ 13 ∷ 12 ∷ 20 ∷ 29 ∷ 2 ∷ 11 ∷ 19 ∷ 18 ∷ 14 ∷ 3 ∷ 24 ∷ 27 ∷ 22 ∷ 5 ∷ 6 ∷ 23 ∷ 10 ∷ 15 ∷ 30 ∷ []

abbrev pub inverse31 : ℕ → Option ℕ
inverse31 a = cond (nat_lt 0 a) (cond (nat_lt a 31) (Some (slice_index inverses31 a)) None) None
