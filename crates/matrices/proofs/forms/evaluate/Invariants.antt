use Rattle.std.proofs.Common.{◌≡◌, ℕ, ◌*◌, ◌<◌, length, get_or}
use Rattle.algebra.specs.Sums.{sum}
use Rattle.matrices.specs.QuadraticSystems.{pairs_before, terms_of}
use Rattle.matrices.proofs.forms.evaluate.Given as goal

abbrev pub invariant-loop-i : goal.invariant-loop-i
invariant-loop-i g l =
    (length l.row ≡ length l.values) × (l.at ≡ pairs_before (length l.x) l.i * length l.values)
    × ((e : ℕ) → e < length l.values → get_or l.values e 0 ≡ sum (g.R.Ring.ring l.ring) l.i (terms_of (g.R.Ring.ring l.ring) l.run l.x (length l.values) e))
