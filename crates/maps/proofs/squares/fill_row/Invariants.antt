use Rattle.std.proofs.Common.{ℕ, ◌<◌, get_or}
use Rattle.maps.proofs.squares.fill_row.Given as goal

abbrev pub invariant-loop-j : goal.invariant-loop-j
invariant-loop-j g l = (k : ℕ) → k < l.j → goal.F-post g l.code k (get_or l.row k 0)
