use Rattle.std.proofs.Common.{◌≡◌, None}
use Rattle.fields.specs.Packing.{code_at, first_foreign}
use Rattle.fields.proofs.packing.first_foreign.Given as goal

abbrev pub invariant-loop-k : goal.invariant-loop-k
invariant-loop-k g l = first_foreign (g.R.Ring.ring l.ring).q (code_at (g.R.Ring.ring l.ring).q l.run) l.k ≡ None
