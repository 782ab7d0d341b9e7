use Rattle.algebra.proofs.Systems.{not_both, unit_regular}
use Rattle.algebra.specs.Systems.{unit_matrix}
use Rattle.matrices.proofs.systems.unit_is_regular.Goals as goal

pub returns : goal.returns
returns g c n =
    let R = g.F.Ring.ring c.args.field.now in
    not_both R n unit_matrix (unit_regular R (g.met.F.Ring.laws c.args.field.now) n)
