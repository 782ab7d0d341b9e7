use Rattle.std.proofs.Common.{◌≡◌, ℕ, ◌-◌, map, length, take, ap, ◌∙◌, arith}
use Rattle.std.specs.List.{range_with_len}
use Rattle.std.proofs.lemmas.List.{length-replicate, length-take-le}
use Rattle.fields.specs.Packing.{codes_from}
use Rattle.matrices.specs.QuadraticSystems.{form_value}
use Rattle.maps.proofs.Values.{evaluated, satisfied}
use Rattle.maps.proofs.verdicts.satisfies.Goals as goal

pub returns : goal.returns
returns g c =
    let R = g.R.Ring.ring c.args.ring.now in
    let n = c.args.n in
    let m = c.args.m in
    let long_x : length c.zeros-x.result ≡ 1024 = ap length c.zeros-x.ensures ∙ length-replicate {A = ℕ} 1024 0 in
    let long_v : length c.zeros-values.result ≡ 1024 = ap length c.zeros-values.ensures ∙ length-replicate {A = ℕ} 1024 0 in
    let n_is : length (take (n - 0) c.zeros-x.result) ≡ n = length-take-le (n - 0) c.zeros-x.result (omega arith) ∙ omega arith in
    let m_is : length (take (m - 0) c.zeros-values.result) ≡ m = length-take-le (m - 0) c.zeros-values.result (omega arith) ∙ omega arith in
    let x_is : c.read_codes.new.codes ≡ codes_from R.q c.args.signature.now 0 n = c.read_codes.ensures ∙ ap (codes_from R.q c.args.signature.now 0) n_is in
    let length_is : length c.read_codes.new.codes ≡ n = c.read_codes.auto.codes ∙ n_is in
    let v_is : c.evaluate.new.values ≡ map (form_value R c.args.run.now c.read_codes.new.codes m) (range_with_len 0 m) = evaluated R c.args.run.now c.read_codes.new.codes _ c.evaluate.new.values c.evaluate.result (record { variables = omega (arith, length_is); forms = omega arith }) c.evaluate.ensures ∙ ap (λ (k : ℕ). map (form_value R c.args.run.now c.read_codes.new.codes k) (range_with_len 0 k)) m_is in
    satisfied R c.args.run.now c.args.digest.now c.args.signature.now n m c.read_codes.new.codes c.evaluate.new.values c.begins_with.result x_is v_is c.begins_with.ensures
