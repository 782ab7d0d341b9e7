use Rattle.maps.proofs.Composition.{valid_means_lem}
use Rattle.maps.proofs.compositions.verdict_stands.Goals as goal

pub returns : goal.returns
returns g c = valid_means_lem (g.R.Ring.ring c.args.ring.now) (g.met.R.Ring.laws c.args.ring.now)
