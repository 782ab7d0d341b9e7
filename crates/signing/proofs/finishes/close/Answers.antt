use Rattle.std.proofs.Common.{get_or, refl}
use Rattle.std.proofs.lemmas.Result.{err_from_is_err_and}
use Rattle.algebra.specs.Matrices.{applied}
use Rattle.fields.specs.Packing.{code_at}
use Rattle.keys.specs.Shapes.{variables}
use Rattle.maps.specs.SecretKeys.{inner_inverse}
use Rattle.signing.proofs.FinishParts.{half_fault, finished}
use Rattle.signing.proofs.finishes.close.Goals as goal

pub returns-in_err-second_layer : goal.returns-in_err-second_layer
returns-in_err-second_layer g c =
    let R = g.F.Ring.ring c.args.key.now.secret.ring.now in
    let s = c.args.key.now.secret.shape in
    let p = err_from_is_err_and c.from_residual.result c.from_residual.ensures.1 in
    rw (p.1, p.2) (half_fault R c.args.key.now.secret.run.now s c.args.place.now (code_at R.q c.args.digest.now) c.unmix.new.b c.unmix.ensures c.half_point.new.point _ c.half_point.ensures.known c.in_err-second_layer.ensures, refl)

pub returns : goal.returns
returns g c =
    let R = g.F.Ring.ring c.args.key.now.secret.ring.now in
    let s = c.args.key.now.secret.shape in
    (applied R (variables s) (inner_inverse R c.args.key.now.secret.run.now s) (λ i. get_or c.second_layer.new.point i 0), (finished R c.args.key.now.secret.run.now s c.args.place.now (code_at R.q c.args.digest.now) c.unmix.new.b c.unmix.ensures c.half_point.new.b c.half_point.new.point c.second_layer.new.point c.half_point.ensures.known c.half_point.ensures.rest c.in_ok-second_layer.ensures, c.write_signature.ensures))
