use Rattle.algebra.specs.Matrices.{folded}
use Rattle.matrices.specs.Arrays.{entry}
use Rattle.matrices.specs.QuadraticSystems.{pair_at}
use Rattle.maps.specs.PublicKeys.{FormPut}
use Rattle.maps.proofs.forms_put.put_form.Given as goal

abbrev pub invariant-loop-i : goal.invariant-loop-i
invariant-loop-i g l = FormPut (g.R.Ring.ring l.ring).q l.n l.m l.f (pair_at l.n l.i l.i) (folded (g.R.Ring.ring l.ring) (entry l.matrix l.n)) l.initial.public l.public
