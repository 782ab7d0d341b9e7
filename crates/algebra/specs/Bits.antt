-- The two-element field.
use Rattle.std.specs.Prelude.{ℕ, cond, Some, None, Option, ◌==◌, bit_and, bit_xor}
use Rattle.algebra.specs.Rings.{Ring, ring_of}

abbrev pub two_elements : Ring
two_elements = ring_of 2 (λ a b. bit_xor a b) (λ a. a) (λ a b. bit_and a b)

abbrev pub bit_inverse : ℕ → Option ℕ
bit_inverse a = cond (a == 1) (Some 1) None
