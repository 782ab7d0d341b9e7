use Rattle.std.proofs.Common.{◌≡◌, ℕ, ◌+◌, ◌*◌, ◌<◌, ◌≤◌}
use Rattle.fields.specs.Packing.{code_at}
use Rattle.matrices.specs.QuadraticSystems.{pairs, pair_at}
use Rattle.keys.specs.Shapes.{variables, equations}
use Rattle.maps.specs.PublicKeys.{central_form}
use Rattle.maps.proofs.secrets.SecretKey.write_run.Given as goal

abbrev pub invariant-loop-f : goal.invariant-loop-f
invariant-loop-f g l =
    ((f i j : ℕ) → f < l.f → i ≤ j → j < variables l.self.secret.shape → code_at (g.R.Ring.ring l.self.secret.ring.now).q l.public (pair_at (variables l.self.secret.shape) i j * equations l.self.secret.shape + f) ≡ central_form (g.R.Ring.ring l.self.secret.ring.now) l.self.secret.run.now l.self.secret.shape f i j)
    × (code_at (g.R.Ring.ring l.self.secret.ring.now).q l.public (pairs (variables l.self.secret.shape) * equations l.self.secret.shape) ≡ 0)
