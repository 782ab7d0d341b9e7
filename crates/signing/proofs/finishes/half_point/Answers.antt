use Rattle.std.proofs.Common.{◌+◌, ◌-◌, arith}
use Rattle.std.proofs.lemmas.List.Edits.{length-between}
use borrow.Rule.Slice.PartMut.{put_mid}
use Rattle.std.specs.List.{between}
use Rattle.matrices.proofs.Blocks.{row_written}
use Rattle.signing.proofs.PlaceParts.{put_length}
use Rattle.signing.proofs.FinishParts.{half_known}
use Rattle.signing.proofs.finishes.half_point.Goals as goal

pub returns : goal.returns
returns g c =
    let R = g.R.Ring.ring c.args.secret.now.ring.now in
    let s = c.args.secret.now.shape in
    let n = length-between c.args.place.now s.v1 (s.v1 + s.o1) (omega arith) in
    let front = length-between c.args.place.now 0 s.v1 (omega arith) in
    let m = length-between c.args.point.now s.v1 (s.v1 + s.o1) (omega arith) in
    record {
      known = half_known R s c.args.place.now c.args.b.now c.take_away.new.b c.args.point.now c.apply.new.image _ c.apply.result c.requires.place (omega arith) c.requires.room (omega arith) c.take_away.ensures c.apply.ensures
          (row_written (put_mid s.v1 (s.v1 + s.o1 - s.v1) c.args.point.now c.apply.new.image) c.copy_from_slice.new.self (between 0 s.v1 c.args.place.now) 0 (s.v1 - 0) c.copy_from_slice.ensures.after (omega (arith, front)) (omega (arith, front, put_length s.v1 (s.v1 + s.o1 - s.v1) c.args.point.now c.apply.new.image (omega arith) (omega arith))));
      rest = λ r l. c.take_away.ensures.rest r (omega arith);
    }
