use Rattle.std.proofs.Common.{◌≡◌, ◌+◌, ◌-◌, ◌*◌, length, get_or, refl, ap, ◌∙◌, arith}
use borrow.Rule.Slice.PartMut.{put_same, put_mid}
use Rattle.std.proofs.lemmas.Result.{err_from_is_err_and}
use Rattle.algebra.proofs.Layers.{entry_ext}
use Rattle.fields.specs.Packing.{code_at}
use Rattle.matrices.proofs.Blocks.{row_written}
use Rattle.fields.proofs.Runs.{get_or_read}
use Rattle.signing.specs.Layers.{layer_forms}
use Rattle.matrices.proofs.Terms.{length_later}
use Rattle.signing.proofs.PlaceParts.{put_length, left_codes_lem, inverse_answers, system_fault, place_holds}
use Rattle.matrices.specs.Linear.{LeftFits}
use Rattle.signing.proofs.starts.open.Goals as goal

pub unwrap-requires : goal.unwrap-requires
unwrap-requires g c =
    let R = g.F.Ring.ring c.args.key.now.secret.ring.now in
    let L = g.met.F.Ring.laws c.args.key.now.secret.ring.now in
    let s = c.args.key.now.secret.shape in
    let F : LeftFits R c.first_rows.new.rows s.o1 _ = record { room = record { places = c.first_rows.auto.rows ∙ c.requires.rows; inverse = length_later c.args.place.now (s.v1 + s.o1) ∙ omega arith }; codes = left_codes_lem R L c.args.key.now.secret.run.now s _ c.args.rows.now c.first_rows.new.rows c.first_rows.ensures.system } in
    inverse_answers R _ _ _ _ c.invert_left.result F c.invert_left.ensures.inverse

pub returns-in_err-unwrap : goal.returns-in_err-unwrap
returns-in_err-unwrap g c =
    let R = g.F.Ring.ring c.args.key.now.secret.ring.now in
    let L = g.met.F.Ring.laws c.args.key.now.secret.ring.now in
    let s = c.args.key.now.secret.shape in
    let x = c.read_codes.new.codes in
    let w = code_at R.q c.args.vinegar.now in
    let p = err_from_is_err_and c.from_residual.result c.from_residual.ensures.1 in
    let e = rw c.in_err-unwrap.ensures at c.invert_left.ensures.inverse in
    rw (p.1, p.2) (system_fault R L c.args.key.now.secret.run.now s 1 s.o1 (s.o1 + s.o1) _ (λ i. get_or x i 0) w c.args.rows.now c.first_rows.new.rows refl (λ r k. entry_ext R s.v1 (layer_forms R.q c.args.key.now.secret.run.now s 1) (λ i. get_or x i 0) w r k (λ i l. get_or_read R.q c.args.vinegar.now x _ i c.read_codes.ensures (omega arith))) c.first_rows.ensures.system e.1.0, ap (put_mid (s.v1 + s.o1) (length c.args.place.now - (s.v1 + s.o1)) c.args.place.now) e.1.1 ∙ put_same (s.v1 + s.o1) (length c.args.place.now - (s.v1 + s.o1)) c.args.place.now)

pub returns : goal.returns
returns g c =
    let R = g.F.Ring.ring c.args.key.now.secret.ring.now in
    let L = g.met.F.Ring.laws c.args.key.now.secret.ring.now in
    let s = c.args.key.now.secret.shape in
    let x = c.read_codes.new.codes in
    let block : length c.invert_left.new.inverse ≡ s.o1 * s.o1 = c.invert_left.auto.inverse ∙ length_later c.args.place.now (s.v1 + s.o1) ∙ omega arith in
    let whole = c.args.place.now in
    let one = put_length (s.v1 + s.o1) (length whole - (s.v1 + s.o1)) whole c.invert_left.new.inverse (omega arith) (omega arith) in
    let two = put_length 0 (s.v1 - 0) (put_mid (s.v1 + s.o1) (length whole - (s.v1 + s.o1)) whole c.invert_left.new.inverse) c.copy_from_slice.new.self (omega (arith, one)) (omega arith) in
    let e = rw c.in_ok-unwrap.ensures at c.invert_left.ensures.inverse in
    place_holds R L c.args.key.now.secret.run.now s _ _ _ _ c.args.rows.now c.first_rows.new.rows c.invert_left.new.inverse x c.first_rows.new.constants c.args.place.now
    (omega arith) (omega arith)
    (λ i l. get_or_read R.q c.args.vinegar.now x _ i c.read_codes.ensures (omega arith))
    c.first_rows.ensures.constants c.first_rows.ensures.system e.1.inverse block
    (row_written c.args.place.now c.invert_left.new.inverse c.invert_left.new.inverse (s.v1 + s.o1) (length c.args.place.now - (s.v1 + s.o1)) refl (omega arith) (omega arith))
    (row_written _ c.copy_from_slice.new.self x 0 (s.v1 - 0) c.copy_from_slice.ensures.after (omega arith) (omega (arith, one)))
    (row_written _ c.copy_from_slice-2.new.self c.first_rows.new.constants s.v1 (s.v1 + s.o1 - s.v1) c.copy_from_slice-2.ensures.after (omega arith) (omega (arith, one, two)))
