use Rattle.std.proofs.Common.{get_or, ◌∙◌, arith}
use Rattle.algebra.proofs.Layers.{applied_ext}
use Rattle.fields.specs.Packing.{code_at}
use Rattle.keys.specs.Shapes.{equations}
use Rattle.maps.specs.SecretKeys.{outer_inverse}
use Rattle.maps.specs.declared.mask_backs.Mask.TheVariants.{Outer}
use Rattle.fields.proofs.Runs.{get_or_read}
use Rattle.signing.proofs.FinishParts.{brought_there}
use Rattle.signing.proofs.finishes.unmix.Goals as goal

pub returns : goal.returns
returns g c e l =
    let R = g.R.Ring.ring c.args.secret.now.ring.now in
    let s = c.args.secret.now.shape in
    let x = c.read_codes.new.codes in
    brought_there R c.args.secret.now.run.now s Outer x c.args.b.now c.bring_back.new.image c.bring_back.result (omega arith) c.requires.room c.bring_back.ensures e l
    ∙ applied_ext R (equations s) (outer_inverse R c.args.secret.now.run.now s) (λ j. get_or x j 0) (code_at R.q c.args.digest.now) e
    (λ j h. get_or_read R.q c.args.digest.now x _ j c.read_codes.ensures (omega arith))
