use Rattle.std.proofs.Common.{◌+◌, ◌*◌, ◌≤◌, mul-le-mul, arith}
use Rattle.matrices.proofs.Terms.{pairs_closed}
use Rattle.keys.proofs.sizes.pairs.Goals as goal

pub returns : goal.returns
returns c =
    let n = c.args.n in
    let e = pairs_closed n in
    record {
      value = omega arith;
      bound = λ h.
          let k : n + 1 ≤ 196606 = omega arith in
          let b : n * (n + 1) ≤ 196605 * 196606 = mul-le-mul h k in
          omega arith;
    }
