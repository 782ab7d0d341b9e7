use Rattle.std.proofs.Common.{get_or}
use Rattle.signing.specs.Layers.{ColumnPut}
use Rattle.signing.proofs.layers.put_column.Given as goal

abbrev pub invariant-loop-r : goal.invariant-loop-r
invariant-loop-r l = ColumnPut l.width l.c l.r (λ k. get_or l.column k 0) l.initial.rows l.rows
