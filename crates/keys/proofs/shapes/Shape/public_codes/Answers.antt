use Rattle.std.proofs.Common.{ℕ, ◌*◌, ap, ◌∙◌, ap₂, mul-le-mul, arith}
use Rattle.matrices.specs.QuadraticSystems.{pairs}
use Rattle.keys.specs.Shapes.{public_codes}
use Rattle.keys.proofs.shapes.Shape.public_codes.Goals as goal

pub returns : goal.returns
unfolding public_codes
returns c =
    let b = mul-le-mul (c.pairs.ensures.bound (omega arith)) c.equations.ensures.bound in
    record { value = ap₂ (λ (x y : ℕ). x * y) (c.pairs.ensures.value ∙ ap pairs c.variables.ensures.value) c.equations.ensures.value; bound = omega arith }
