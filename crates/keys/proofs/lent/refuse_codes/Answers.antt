use Rattle.std.proofs.Common.{rules, Option, List, subst}
use Rattle.keys.specs.Refusals.{Told, first, codes_test, Answers}
use Rattle.keys.specs.Seen.{seen}
use Rattle.keys.proofs.Orders.{fused}
use Rattle.keys.specs.declared.lent.Lent.{Lent}
use Rattle.keys.proofs.lent.refuse_codes.Goals as goal

pub returns : goal.returns
returns g c =
    let q = (g.R.Ring.ring c.args.ring.now).q in
    subst (λ (ts : List (Option Told)). Answers (first ts) c.refuse_by.result (λ _. Unit {0})) (fused (seen q) (codes_test q) c.args.buffers.now)
    (c.refuse_by.ensures (λ (l : Lent). codes_test q (seen q l)) (λ x r h. search rules))
