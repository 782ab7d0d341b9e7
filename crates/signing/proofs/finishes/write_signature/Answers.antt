use Rattle.std.proofs.Common.{arith}
use Rattle.keys.specs.Shapes.{variables}
use Rattle.maps.specs.declared.mask_backs.Mask.TheVariants.{Inner}
use Rattle.signing.proofs.FinishParts.{brought_there, signature_written}
use Rattle.signing.proofs.finishes.write_signature.Goals as goal

pub returns : goal.returns
returns g c =
    let R = g.R.Ring.ring c.args.key.now.secret.ring.now in
    let s = c.args.key.now.secret.shape in
    signature_written R.q (variables s) _ c.bring_back.new.image c.args.signature.now c.write_codes.new.run c.write_codes.result (omega arith) c.requires.room
    (brought_there R c.args.key.now.secret.run.now s Inner c.args.point.now _ c.bring_back.new.image c.bring_back.result c.requires.point (omega arith) c.bring_back.ensures) c.write_codes.ensures
