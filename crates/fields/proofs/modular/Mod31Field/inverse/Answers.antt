use Rattle.std.proofs.Common.{◌≡◌, ◌<◌, get_or, Some, sym, arith}
use Rattle.algebra.specs.Modular.{modular, inverses31, inverse31}
use Rattle.algebra.proofs.Guarded.{kept}
use Rattle.algebra.proofs.ModularLaws.{inverse31_right, a_code}
use Rattle.fields.proofs.modular.Mod31Field.inverse.Goals as goal

pub returns-then-a-lt31 : goal.returns-then-a-lt31
returns-then-a-lt31 c =
    let a = c.args.a in
    let h : a < 31 = omega arith in
    let ne : a ≡ 0 → ⊥ = omega arith in
    kept (modular 31) inverse31 inverse31_right a (Some (get_or inverses31 a 0)) (sym (a_code a (get_or inverses31 a 0) ne h))
