use Rattle.std.proofs.Common.{rules, Option, List, subst}
use Rattle.keys.specs.Refusals.{Told, first, length_test, Answers}
use Rattle.keys.specs.Seen.{seen}
use Rattle.keys.proofs.Orders.{fused}
use Rattle.keys.specs.declared.lent.Lent.{Lent}
use Rattle.keys.proofs.lent.refuse_lengths.Goals as goal

pub returns : goal.returns
returns c = λ q.
    subst (λ (ts : List (Option Told)). Answers (first ts) c.refuse_by.result (λ _. Unit {0})) (fused (seen q) length_test c.args.buffers.now)
    (c.refuse_by.ensures (λ (l : Lent). length_test (seen q l)) (λ x r h. search rules))
