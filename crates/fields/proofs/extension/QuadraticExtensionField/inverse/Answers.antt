use Rattle.std.proofs.Common.{◌≡◌, ◌*◌, ◌/◌, ◌%◌, ◌<◌, Some, None}
use Rattle.algebra.specs.Extension.{norm_of, over_norm}
use Rattle.algebra.proofs.ExtensionLaws.{inverted}
use Rattle.fields.proofs.extension.QuadraticExtensionField.inverse.Goals as goal

pub returns-in_err-n : goal.returns-in_err-n
returns-in_err-n g c =
    let b = c.args.self.now.base in
    let R = g.F.Ring.ring b in
    let k = g.F.Extensible.constant_of b in
    let a = c.args.a in
    let r = c.from_residual-in_err-n.result in
    let p = c.in_ok-l.ensures in
    let w = c.in_err-n.was in
    let h : a < R.q * R.q = rw c.size-q.ensures at p.0 in
    let e : g.F.Field.inv b (norm_of R k (a % R.q) (a / R.q)) ≡ None = cc in
    inverted R (g.met.F.Ring.laws b) k (g.met.F.Extensible.extends b) (g.F.Field.inv b) (g.met.F.Field.inverses b) a h None e r c.from_residual-in_err-n.ensures

pub returns : goal.returns
returns g c =
    let b = c.args.self.now.base in
    let R = g.F.Ring.ring b in
    let k = g.F.Extensible.constant_of b in
    let a = c.args.a in
    let n = c.in_ok-n.n in
    let r = Some c.joined.result in
    let p = c.in_ok-l.ensures in
    let w = c.in_ok-n.was in
    let h : a < R.q * R.q = rw c.size-q.ensures at p.0 in
    let e : g.F.Field.inv b (norm_of R k (a % R.q) (a / R.q)) ≡ Some n = cc in
    let f : r ≡ over_norm R (a % R.q) (a / R.q) (Some n) = cc in
    inverted R (g.met.F.Ring.laws b) k (g.met.F.Extensible.extends b) (g.F.Field.inv b) (g.met.F.Field.inverses b) a h (Some n) e r f
