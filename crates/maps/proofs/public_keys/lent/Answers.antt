use Rattle.std.proofs.Common.{eqb, length, ap}
use Rattle.keys.specs.declared.heads.Head.{Head}
use Rattle.keys.specs.declared.refusals.Buffer.TheVariants.{PublicKey}
use Rattle.keys.specs.Shapes.{public_codes}
use Rattle.keys.specs.Heads.{key_length}
use Rattle.keys.specs.Refusals.{space}
use Rattle.maps.proofs.public_keys.lent.Goals as goal

pub returns : goal.returns
returns g c =
    let q = (g.R.Ring.ring c.args.ring.now).q in
    let public = c.space.ensures q in
    let work = c.workspace.ensures q in
    cc (ap (λ (h : Head). space PublicKey (eqb (length c.args.public.now) (key_length h.len q (public_codes h.shape)))) c.args.key.now.read)
