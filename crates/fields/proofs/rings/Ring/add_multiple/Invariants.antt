use Rattle.std.proofs.Common.{◌≡◌, take}
use Rattle.fields.specs.Rows.{plus_times}
use Rattle.fields.proofs.rings.Ring.add_multiple.Given as goal

abbrev pub invariant-loop-i : goal.invariant-loop-i
invariant-loop-i g l = l.acc ≡ plus_times (g.Self.Ring.ring l.self) l.t l.initial.acc (take l.i l.row)
