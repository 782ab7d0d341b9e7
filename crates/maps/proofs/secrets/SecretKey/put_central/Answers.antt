use Rattle.std.proofs.Common.{◌∙◌}
use Rattle.maps.proofs.Publishing.{pulled_small, central_put}
use Rattle.maps.proofs.secrets.SecretKey.put_central.Goals as goal

pub put_form-requires-clause-codes : goal.put_form-requires-clause-codes
put_form-requires-clause-codes g c =
    pulled_small (g.R.Ring.ring c.args.self.now.secret.ring.now) c.args.self.now.secret.run.now c.args.self.now.secret.shape c.args.f c.variables-n.result c.variables-n.ensures.value c.args.self.now.within c.fill_central.new.matrix c.args.inner.now c.args.right.now c.multiply.new.product c.multiply_transposed.new.product c.multiply.result c.multiply_transposed.result (c.fill_central.auto.matrix ∙ c.requires.left) c.requires.inner c.requires.right c.multiply.auto.product c.multiply.ensures c.multiply_transposed.ensures (g.met.R.Ring.laws c.args.self.now.secret.ring.now)

pub returns : goal.returns
returns g c =
    central_put (g.R.Ring.ring c.args.self.now.secret.ring.now) c.args.self.now.secret.run.now c.args.self.now.secret.shape c.args.f c.variables-n.result c.variables-n.ensures.value c.args.self.now.within c.fill_central.new.matrix c.args.inner.now c.args.right.now c.multiply.new.product c.multiply_transposed.new.product c.multiply.result c.multiply_transposed.result (c.fill_central.auto.matrix ∙ c.requires.left) c.requires.inner c.requires.right c.multiply.auto.product c.multiply.ensures c.multiply_transposed.ensures
    c.fill_central.ensures c.requires.mask c.args.public.now c.put_form.new.public c.equations-m.result c.equations-m.ensures.value c.put_form.ensures
