use Rattle.std.proofs.Common.{◌≡◌, Option, Result, map, drop}
use Rattle.std.specs.Fn.{FnReturnsAt}
use Rattle.keys.specs.declared.refusals.Refusal.{Refusal}
use Rattle.keys.specs.Refusals.{Told, Answers, first}
use Rattle.keys.proofs.lent.refuse_by.Given as goal

abbrev pub invariant-loop-item : goal.invariant-loop-item
invariant-loop-item g l =
    (t : g.row.T.Denot → Option Told) → ((x : g.row.T.Denot) (r : Result Unit Refusal) → FnReturnsAt g.F.Fn l.test x r → Answers (t x) r (λ _. Unit {0})) → first (map t l.items) ≡ first (map t (drop l.item-index l.items))
