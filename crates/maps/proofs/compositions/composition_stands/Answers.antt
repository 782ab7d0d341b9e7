use Rattle.maps.proofs.Composition.{every_point_lem}
use Rattle.maps.proofs.compositions.composition_stands.Goals as goal

pub returns : goal.returns
returns g c = every_point_lem (g.R.Ring.ring c.args.ring.now) (g.met.R.Ring.laws c.args.ring.now)
