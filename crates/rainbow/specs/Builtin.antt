-- The rings that the program has, by a key's first byte, q - 1.
use Rattle.std.specs.Prelude.{ℕ, cond, List, ◌==◌, slice_index}
use Rattle.algebra.specs.Rings.{Ring}
use Rattle.rainbow.specs.declared.builtin.BuiltIn.{BuiltIn}
use Rattle.rainbow.specs.declared.builtin.BuiltIn.TheVariants.{Gf2, Gf4, Modulo6, Gf16, Gf256, Mod31}
use Rattle.algebra.specs.Bits.{two_elements}
use Rattle.algebra.specs.Modular.{modular}
use Rattle.algebra.specs.Tower.{gf4, gf16, gf256}

-- the ring that a byte names; modulo 31 where it names none, which then refuses the key
abbrev pub ring_named : ℕ → Ring
ring_named b = cond (b == 1) two_elements (cond (b == 3) gf4 (cond (b == 5) (modular 6) (cond (b == 15) gf16 (cond (b == 255) gf256 (modular 31)))))

abbrev pub ring_of_key : List ℕ → Ring
ring_of_key key = ring_named (slice_index key 0)

-- the ring that a built-in name means
abbrev pub meaning : BuiltIn → Ring
meaning Gf2 = two_elements
meaning Gf4 = gf4
meaning Modulo6 = modular 6
meaning Gf16 = gf16
meaning Gf256 = gf256
meaning Mod31 = modular 31
