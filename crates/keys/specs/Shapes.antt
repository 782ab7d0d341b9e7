-- Shapes, their limits, and how many codes and bytes each gives.
use Rattle.std.specs.Prelude.{ℕ, ◌+◌, ◌*◌, max, Bool, cond, ◌&&◌, nat_le, nat_lt}
use Rattle.matrices.specs.QuadraticSystems.{pairs}
use Rattle.keys.specs.declared.shapes.Shape.{Shape}

-- n, the number of variables
abbrev pub variables : Shape → ℕ
variables s = s.v1 + s.o1 + s.o2

-- m, the number of equations
abbrev pub equations : Shape → ℕ
equations s = s.o1 + s.o2

-- from 1 to the most
abbrev pub up_to : ℕ → ℕ → Bool
up_to most k = nat_lt 0 k && nat_le k most

-- the limits: v1 from 1 to 128, o1 and o2 from 1 to 64
abbrev pub within : Shape → Bool
within s = up_to 128 s.v1 && (up_to 64 s.o1 && up_to 64 s.o2)

-- S', T1, T4 and T3
abbrev pub mask_codes : Shape → ℕ
mask_codes s = s.o1 * s.o2 + s.v1 * s.o1 + s.v1 * s.o2 + s.o1 * s.o2

-- a layer of o equations over the pairs of v variables and those of one of them with one of o
unfoldable pub layer_codes : ℕ → ℕ → ℕ
layer_codes v o = o * (pairs v + v * o)

-- where the coefficients of a layer begin
abbrev pub layer_start : Shape → ℕ → ℕ
layer_start s l = cond (nat_le l 1) (mask_codes s) (mask_codes s + layer_codes s.v1 s.o1)

-- how many codes a secret key has: the masks, then the layers
unfoldable pub secret_codes : Shape → ℕ
secret_codes s = mask_codes s + layer_codes s.v1 s.o1 + layer_codes (s.v1 + s.o1) s.o2

-- how many codes a public key has: one for each pair of variables and each equation
unfoldable pub public_codes : Shape → ℕ
public_codes s = pairs (variables s) * equations s

-- a place of the strip: vinegar, constants, and an inverse of o1 rows, one code a byte
abbrev pub place_length : Shape → ℕ
place_length s = s.v1 + s.o1 + s.o1 * s.o1

-- the workspace of the making of a public key, and of a preparation or a signature
abbrev pub key_workspace : Shape → ℕ
key_workspace s = 3 * variables s * variables s

abbrev pub sign_workspace : Shape → ℕ
sign_workspace s = variables s + equations s + 2 * max s.o1 s.o2 * max s.o1 s.o2
