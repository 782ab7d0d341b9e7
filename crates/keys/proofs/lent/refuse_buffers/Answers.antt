use Rattle.std.proofs.Common.{map}
use Rattle.keys.specs.Refusals.{length_test, codes_test}
use Rattle.keys.specs.Seen.{seen}
use Rattle.keys.proofs.Orders.{refused, early, after}
use Rattle.keys.proofs.lent.refuse_buffers.Goals as goal

pub returns-in_err-refuse_lengths : goal.returns-in_err-refuse_lengths
returns-in_err-refuse_lengths g c =
    let q = (g.R.Ring.ring c.args.ring.now).q in
    let bs = map (seen q) c.args.buffers.now in
    refused _ _ c.from_residual.result _ c.from_residual.ensures.1 (early (map length_test bs) (map (codes_test q) bs) _ (c.in_err-refuse_lengths.ensures q))

pub returns : goal.returns
returns g c =
    let q = (g.R.Ring.ring c.args.ring.now).q in
    let bs = map (seen q) c.args.buffers.now in
    after _ (map length_test bs) (map (codes_test q) bs) c.refuse_codes.result (c.in_ok-refuse_lengths.ensures q).0 c.refuse_codes.ensures
