use Rattle.std.proofs.Common.{◌≡◌, ℕ, ◌+◌, ◌<◌, get_or}
use Rattle.fields.specs.Packing.{code_at}
use Rattle.fields.proofs.packing.read_codes.Given as goal

abbrev pub invariant-loop-i : goal.invariant-loop-i
invariant-loop-i g l = (j : ℕ) → j < l.i → get_or l.codes j 0 ≡ code_at (g.R.Ring.ring l.ring).q l.run (l.from + j)
