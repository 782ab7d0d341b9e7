use Rattle.std.proofs.Common.{◌<◌, ◌≤◌, rules, tests}
use Rattle.std.proofs.lemmas.Iterator.{cases_from_all, YieldsList-from_slice}
use Rattle.matrices.proofs.RowWrites.{sifted}
use Rattle.matrices.proofs.elimination.all_codes.Goals as goal

pub returns : goal.returns
returns g c =
    let R = g.R.Ring.ring c.args.ring.now in
    sifted R (g.met.R.Ring.laws c.args.ring.now) c.args.rows.now c.all.result (cases_from_all _ _ _ (λ x. x < R.q) (λ x. R.q ≤ x) c.all.ensures.ran (YieldsList-from_slice c.args.rows.now cc) (λ x q k. search (rules, tests)) (λ x q k. search (rules, tests)))
