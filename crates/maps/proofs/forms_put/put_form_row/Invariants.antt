use Rattle.std.proofs.Common.{ℕ, List}
use Rattle.algebra.specs.Matrices.{folded}
use Rattle.matrices.specs.Arrays.{entry}
use Rattle.matrices.specs.QuadraticSystems.{pair_at}
use Rattle.maps.specs.PublicKeys.{FormPut}
use Rattle.maps.proofs.forms_put.put_form_row.Given as goal

abbrev pub invariant-loop-j : goal.invariant-loop-j
invariant-loop-j g l =
    (first : List ℕ) → FormPut (g.R.Ring.ring l.ring).q l.n l.m l.f (pair_at l.n l.i l.i) (folded (g.R.Ring.ring l.ring) (entry l.matrix l.n)) first l.initial.public
    → FormPut (g.R.Ring.ring l.ring).q l.n l.m l.f (pair_at l.n l.i l.j) (folded (g.R.Ring.ring l.ring) (entry l.matrix l.n)) first l.public
