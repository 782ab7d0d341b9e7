use Rattle.std.proofs.Common.{◌≡◌, ℕ, ◌+◌, ◌<◌, length, get_or}
use Rattle.algebra.specs.Sums.{sum}
use Rattle.matrices.specs.QuadraticSystems.{term_of}
use Rattle.matrices.proofs.forms.add_terms.Given as goal

abbrev pub invariant-loop-k : goal.invariant-loop-k
invariant-loop-k g l =
    (length l.row ≡ length l.values)
    × ((e : ℕ) → e < length l.values → get_or l.values e 0 ≡ (g.R.Ring.ring l.ring).add (get_or l.initial.values e 0) (sum (g.R.Ring.ring l.ring) (l.i + l.k) (term_of (g.R.Ring.ring l.ring) l.run l.x (length l.values) e l.i)))
