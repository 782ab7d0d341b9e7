use Rattle.std.proofs.Common.{◌≡◌, ℕ, ◌<◌, get_or}
use Rattle.fields.specs.Packing.{in_pairs}
use Rattle.fields.proofs.packing.write_codes.Given as goal

abbrev pub invariant-loop-i : goal.invariant-loop-i
invariant-loop-i g l = (j : ℕ) → j < l.i → get_or l.run j 0 ≡ get_or (in_pairs l.codes) j 0
