use Rattle.matrices.specs.Arrays.{entry}
use Rattle.maps.specs.PublicKeys.{Mixed}
use Rattle.maps.proofs.forms_put.mix.Given as goal

abbrev pub invariant-loop-t : goal.invariant-loop-t
invariant-loop-t g l = Mixed (g.R.Ring.ring l.ring) l.m l.t (entry l.mask l.m) l.initial.public l.public
