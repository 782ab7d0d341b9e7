use Rattle.std.proofs.Common.{◌≡◌, ℕ, ◌<◌, List, length, get_or, take, set, sym, ap, ◌∙◌, ap₂, add-one, arith, get_or-take}
use Rattle.std.proofs.lemmas.List.{length-take-le}
use Rattle.fields.proofs.Additions.{plus_none, get_or_next, plus_more, plus_all}
use Rattle.fields.proofs.rings.Ring.add_multiple.Goals as goal

pub loop-i-init : goal.loop-i-init
loop-i-init g c = sym (plus_none (g.Self.Ring.ring c.args.self.now) c.args.t c.args.acc.now)

pub loop-i-preserved : goal.loop-i-preserved
loop-i-preserved g c =
    let R = g.Self.Ring.ring c.args.self.now in
    let acc = c.args.acc.now in
    let row = c.args.row.now in
    let i = c.loop-i.i in
    let n = c.min-n.result in
    let reach : length (take n row) ≡ n = length-take-le n row (omega arith) in
    let la : i < length acc = omega (arith, reach) in
    let lr : i < length row = omega (arith, reach) in
    let was : get_or c.loop-i.acc i 0 ≡ get_or acc i 0 = ap (λ (xs : List ℕ). get_or xs i 0) c.loop-i.invariant ∙ get_or_next R c.args.t acc row i in
    let read : get_or (take n row) i 0 ≡ get_or row i 0 = get_or-take n row i 0 (omega (arith, reach)) in
    let put : c.sum.result ≡ R.add (get_or acc i 0) (R.mul c.args.t (get_or row i 0)) = c.sum.ensures ∙ ap₂ R.add was (c.product.ensures ∙ ap (R.mul c.args.t) read) in
    rw add-one (ap₂ (λ (xs : List ℕ) (x : ℕ). set xs i x) c.loop-i.invariant put ∙ plus_more R c.args.t acc row i la lr)

pub returns : goal.returns
returns g c =
    c.loop-i.invariant
    ∙ plus_all (g.Self.Ring.ring c.args.self.now) c.args.t c.args.acc.now c.args.row.now c.loop-i.i (omega (arith, length-take-le c.min-n.result c.args.row.now (omega arith)))
