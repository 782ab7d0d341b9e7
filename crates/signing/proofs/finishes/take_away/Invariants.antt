use Rattle.signing.specs.Starts.{TakenAway}
use Rattle.signing.proofs.finishes.take_away.Given as goal

abbrev pub invariant-loop-r : goal.invariant-loop-r
invariant-loop-r g l = TakenAway (g.R.Ring.ring l.ring) l.c l.initial.b l.b l.r
