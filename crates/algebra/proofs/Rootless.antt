-- A constant c with t t = t + c for no code t, by a computed test. Assumes nothing.
use Rattle.std.proofs.Common.{◌≡◌, ℕ, ◌<◌, ◌≤◌, Bool, true, not, eqb, eq-eqb}
use borrow.Author.Tests.{both_ways, not-true}
use Rattle.algebra.specs.Rings.{Ring}
use Rattle.algebra.specs.Extension.{Extends}
use Rattle.algebra.proofs.Everywhere.{all_below, everywhere}

-- t is no root
abbrev pub no_root : Ring → ℕ → ℕ → Bool
no_root R c t = not (eqb (R.mul t t) (R.add t c))

pub extends : (R : Ring) (c : ℕ) → R.q ≤ 16 → c < R.q → all_below (no_root R c) R.q ≡ true → Extends R c
extends R c small code test = record {
  small = small;
  code = code;
  rootless = λ t h e.
      let b = eqb (R.mul t t) (R.add t c) in
      both_ways b (not-true b (everywhere (no_root R c) R.q test t h)) (eq-eqb (R.mul t t) (R.add t c) e);
}
