use Rattle.std.proofs.Common.{ℕ, ◌+◌, ◌*◌, ◌≤◌, ap, mul-le-mul, arith}
use Rattle.keys.specs.Shapes.{layer_codes}
use Rattle.keys.proofs.sizes.layer_codes.Goals as goal

pub returns : goal.returns
unfolding layer_codes
returns c =
    let b = mul-le-mul c.requires.variables c.requires.equations in
    let s : c.pairs.result + c.args.v * c.args.o ≤ 42949672960 = omega arith in
    let m : c.args.o * (c.pairs.result + c.args.v * c.args.o) ≤ 65535 * 42949672960 = mul-le-mul c.requires.equations s in
    record { value = ap (λ (p : ℕ). c.args.o * (p + c.args.v * c.args.o)) c.pairs.ensures.value; bound = omega arith }
