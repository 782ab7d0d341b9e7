use Rattle.std.proofs.Common.{List, map, Ok, Err, refl, ◌∙◌}
use Rattle.std.proofs.lemmas.List.{at_drop_all}
use Rattle.std.proofs.lemmas.Fn.{says_at}
use Rattle.keys.specs.Refusals.{first}
use Rattle.keys.proofs.Orders.{first_next, first_some, refused}
use Rattle.keys.proofs.lent.refuse_by.Goals as goal

pub returns-in_err-test : goal.returns-in_err-test
returns-in_err-test g c = λ t h.
    let x = c.item-item.result in
    let says = h x (Err c.in_err-test.field-0.0) (says_at g.F.Fn c.in_err-test.ensures refl) in
    refused _ _ c.from_residual.result _ c.from_residual.ensures.1 (c.loop-item.invariant t h ∙ first_some t c.args.items.now c.loop-item.item-index x _ c.loop-item-test.true c.item-item.is says)

pub loop-item-preserved : goal.loop-item-preserved
loop-item-preserved g c = λ t h.
    let x = c.item-item.result in
    let says = h x (Ok c.in_ok-test.field-0) (says_at g.F.Fn c.in_ok-test.ensures refl) in
    c.loop-item.invariant t h ∙ first_next t c.args.items.now c.loop-item.item-index x c.loop-item-test.true c.item-item.is says.0

pub returns : goal.returns
returns g c = λ t h. (c.loop-item.invariant t h ∙ at_drop_all (λ (xs : List g.row.T.Denot). first (map t xs)) c.args.items.now c.loop-item.item-index c.loop-item-test.false, tt)
