use Rattle.maps.proofs.Undone.{masks_undone}
use Rattle.maps.proofs.mask_backs.masks_undone.Goals as goal

pub returns : goal.returns
returns g c = masks_undone (g.R.Ring.ring c.args.ring.now) (g.met.R.Ring.laws c.args.ring.now)
