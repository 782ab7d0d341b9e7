-- Each constant of the tower makes an extension, and the worked cases hold. Assumes nothing.
use Rattle.std.proofs.Common.{refl, lit<, lit≤}
use Rattle.algebra.specs.Bits.{two_elements}
use Rattle.algebra.specs.Extension.{Extends}
use Rattle.algebra.specs.Tower.{gf16, TowerCases}
use Rattle.algebra.proofs.Rootless.{extends}

pub extends2 : Extends two_elements 1
extends2 = extends two_elements 1 (lit≤ tt) (lit< tt) refl

pub extends16 : Extends gf16 8
extends16 = extends gf16 8 (lit≤ tt) (lit< tt) refl

pub tower_cases : TowerCases
tower_cases = record {
  two_squared = refl;
  four_squared = refl;
  eight_squared = refl;
  four_inverted = refl;
  sixteen_squared = refl;
  sixteen_inverted = refl;
}
