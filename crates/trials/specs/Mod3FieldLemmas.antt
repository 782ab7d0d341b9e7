-- The integers modulo 3: what an inverse is there, for a field that the tests extend.
use Rattle.std.specs.Prelude.{◌≡◌, ℕ, zero, suc, ◌<◌, ◌≤◌, cond, Some, None, Option, ◌≢◌, nat_lt, refl}
use Rattle.std.proofs.Common.{arith}
use Rattle.std.proofs.lemmas.Bool.Decides.{nat_tests}
use Rattle.algebra.specs.Modular.{modular}

abbrev pub own : ℕ → Option ℕ
own a = cond (nat_lt 0 a) (cond (nat_lt a 3) (Some a) None) None

pub no_code : (a : ℕ) → 3 ≤ a → own a ≡ None
no_code a h = grind (arith, nat_tests)

pub a_code : (a : ℕ) → (a ≢ 0) → a < 3 → own a ≡ Some a
a_code a ne h = grind (arith, nat_tests)

pub squared : (a : ℕ) → (a ≢ 0) → a < 3 → (modular 3).mul a a ≡ 1
squared zero ne h = absurd (ne refl)
squared (suc zero) ne h = refl
squared (suc (suc zero)) ne h = refl
squared (suc (suc (suc a))) ne h = omega arith
