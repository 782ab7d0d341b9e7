use Rattle.std.proofs.Common.{ℕ, ◌+◌, ap₂, arith}
use Rattle.keys.specs.Shapes.{secret_codes}
use Rattle.keys.proofs.shapes.Shape.secret_codes.Goals as goal

pub returns : goal.returns
unfolding secret_codes
returns c = record { value = ap₂ (λ (x y : ℕ). x + y) c.layer_start.ensures.value c.layer_codes.ensures.value; bound = omega arith }
