use Rattle.std.proofs.Common.{ℕ, get_or, sym, ap, ◌∙◌}
use Rattle.matrices.proofs.RowSums.{dot_single}
use Rattle.maps.specs.SecretKeys.{block_t4, mask_inverse}
use Rattle.maps.proofs.MaskRows.{back_blocks, inverse_is, mask_one}
use Rattle.maps.proofs.secrets.SecretRun.brought.Goals as goal

pub loop-j-init : goal.loop-j-init
loop-j-init g c =
    let secret = c.args.self.now in
    let R = g.R.Ring.ring secret.ring.now in
    let L = g.met.R.Ring.laws secret.ring.now in
    let run = secret.run.now in
    let s = secret.shape in
    let k = c.args.mask in
    let i = c.args.i in
    let factors : ℕ → ℕ = mask_inverse k R run s i in
    let x : ℕ → ℕ = λ j. get_or c.args.x.now j 0 in
    let reach = c.reach-j.ensures in
    let blocks = back_blocks R run s in
    let corner = block_t4 R.q run s in
    let one = inverse_is R run s k i i ∙ mask_one k s blocks corner i in
    c.product-s.ensures
    ∙ sym
    (dot_single R L factors x i c.reach-j.result reach.after (λ j l n. inverse_is R run s k i j ∙ reach.identity blocks corner j l n)
    ∙ ap (λ f. R.mul f (x i)) one)
