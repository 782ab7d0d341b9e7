use Rattle.std.proofs.Common.{◌≡◌, ℕ, ◌+◌, ◌*◌, ◌<◌, get_or}
use Rattle.matrices.specs.Arrays.{entry}
use Rattle.matrices.proofs.products.read_column.Given as goal

abbrev pub invariant-loop-code : goal.invariant-loop-code
invariant-loop-code l = record {
  ahead : (k : ℕ) → get_or l.rest k 0 ≡ get_or l.rows (l.code-index * l.width + k) 0;
  done : (t : ℕ) → t < l.code-index → get_or l.column t 0 ≡ entry l.rows l.width t l.at;
}
