use Rattle.std.proofs.Common.{◌≡◌, ℕ, length, get_or, refl, ap, ◌∙◌, ap₂, add-one, arith, rules}
use Rattle.algebra.specs.Sums.{sum}
use Rattle.algebra.specs.Layers.{layer_constant}
use Rattle.algebra.proofs.Codes.{sum_code}
use Rattle.maps.specs.SecretKeys.{group_size}
use Rattle.signing.specs.Layers.{LayerAt, layer_forms, pairs_from}
use Rattle.signing.proofs.LayerSums.{all_codes}
use Rattle.signing.proofs.layers.Layer.constants.Goals as goal

pub add_pairs-requires : goal.add_pairs-requires
add_pairs-requires g c =
    let R = g.R.Ring.ring c.args.self.now.secret.now.ring.now in
    let L = g.met.R.Ring.laws c.args.self.now.secret.now.ring.now in
    let s = c.args.self.now.secret.now.shape in
    let F = layer_forms R.q c.args.self.now.secret.now.run.now s c.args.self.now.number in
    let A : LayerAt s c.args.self.now.number c.args.self.now.x.now = c.if-not-is_there.ensures.0 refl in
    let len : length c.loop-i.constants ≡ group_size s c.args.self.now.number = c.loop-i.auto.constants ∙ c.fill.ensures.len ∙ c.if-constants-equations.false ∙ c.equations-equations.ensures.value in
    record {
      layer = A;
      inside = c.loop-i-test.true;
      row_len = search rules;
      sums_len = len;
      codes = all_codes R L (group_size s c.args.self.now.number) c.loop-i.constants (λ r. sum R c.loop-i.i (pairs_from R F c.args.self.now.x.now r)) len c.loop-i.invariant (λ r. sum_code R L c.loop-i.i _);
    }

pub loop-i-preserved : goal.loop-i-preserved
loop-i-preserved g c r h =
    let R = g.R.Ring.ring c.args.self.now.secret.now.ring.now in
    let F = layer_forms R.q c.args.self.now.secret.now.run.now c.args.self.now.secret.now.shape c.args.self.now.number in
    c.add_pairs.ensures r h ∙ ap (λ t. R.add t (pairs_from R F c.args.self.now.x.now r c.loop-i.i)) (c.loop-i.invariant r h)
    ∙ rw add-one

pub returns : goal.returns
unfolding layer_constant
returns g c =
    let R = g.R.Ring.ring c.args.self.now.secret.now.ring.now in
    let s = c.args.self.now.secret.now.shape in
    let F = layer_forms R.q c.args.self.now.secret.now.run.now s c.args.self.now.number in
    let A : LayerAt s c.args.self.now.number c.args.self.now.x.now = c.if-not-is_there.ensures.0 refl in
    let all : c.loop-i.i ≡ length c.args.self.now.x.now = omega arith in
    let term : ℕ → ℕ → ℕ → ℕ = λ r i j. R.mul (F r i j) (R.mul (get_or c.args.self.now.x.now i 0) (get_or c.args.self.now.x.now j 0)) in (
      (A, c.if-constants-equations.false ∙ c.equations-equations.ensures.value),
      λ r h. c.loop-i.invariant r h ∙ ap₂ (λ n m. sum R n (λ i. sum R m (term r i))) (all ∙ A.values) A.values,
    )
