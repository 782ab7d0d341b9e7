use Rattle.std.proofs.Common.{◌*◌, ◌≤◌, mul-le-mul, arith}
use Rattle.shelf.proofs.state.Inner.strip_len.Goals as goal

pub overflow_mul-result : goal.overflow_mul-result
overflow_mul-result c =
    let places : c.args.self.now.places ≤ 255 = omega arith in
    let b : c.args.self.now.places * c.place_len.result ≤ 255 * 8589934592 = mul-le-mul places c.place_len.ensures.bound in
    omega arith
