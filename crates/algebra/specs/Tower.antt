-- The fields of 4, 16 and 256 codes, each a quadratic extension of the one below, from the two-element field up.
use Rattle.std.specs.Prelude.{◌≡◌, ℕ, Some, Option}
use Rattle.algebra.specs.Rings.{Ring}
use Rattle.algebra.specs.Bits.{two_elements, bit_inverse}
use Rattle.algebra.specs.Extension.{extension, inverse_over}

-- The field of 4 codes: e e = e + 1.
abbrev pub gf4 : Ring
gf4 = extension two_elements 1

-- The field of 16 codes: e e = e + 2 over the field of 4.
abbrev pub gf16 : Ring
gf16 = extension gf4 2

-- The field of 256 codes: e e = e + 8 over the field of 16.
abbrev pub gf256 : Ring
gf256 = extension gf16 8

-- The inverse in the field of 4 codes.
abbrev pub inverse4 : ℕ → Option ℕ
inverse4 = inverse_over two_elements bit_inverse 1

-- The inverse in the field of 16 codes.
abbrev pub inverse16 : ℕ → Option ℕ
inverse16 = inverse_over gf4 inverse4 2

-- The inverse in the field of 256 codes.
abbrev pub inverse256 : ℕ → Option ℕ
inverse256 = inverse_over gf16 inverse16 8

-- Products and inverses worked out by hand.
pub record TowerCases : Type 0 where
  pub two_squared : gf4.mul 2 2 ≡ 3
  pub four_squared : gf16.mul 4 4 ≡ 6
  pub eight_squared : gf16.mul 8 8 ≡ 13
  pub four_inverted : inverse16 4 ≡ Some 15
  pub sixteen_squared : gf256.mul 16 16 ≡ 24
  pub sixteen_inverted : inverse256 16 ≡ Some 170
