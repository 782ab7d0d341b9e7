use Rattle.std.proofs.Common.{◌+◌, get_or, arith}
use Rattle.std.proofs.lemmas.Result.{err_from_is_err_and}
use Rattle.algebra.proofs.Systems.{dependent_ext}
use Rattle.matrices.proofs.Terms.{length_later}
use Rattle.signing.proofs.FinishParts.{rows_whole, rows_fit, solve_answers, second_solved}
use Rattle.signing.proofs.finishes.second_layer.Goals as goal

pub unwrap-requires : goal.unwrap-requires
unwrap-requires g c =
    let R = g.F.Ring.ring c.args.key.now.secret.ring.now in
    let L = g.met.F.Ring.laws c.args.key.now.secret.ring.now in
    solve_answers R _ _ _ c.solve.result (rows_fit R c.args.key.now.secret.run.now c.args.key.now.secret.shape L _ _ c.second_rows.new.rows (omega arith) c.second_rows.ensures) c.solve.ensures

pub returns-in_err-unwrap : goal.returns-in_err-unwrap
returns-in_err-unwrap g c =
    let R = g.F.Ring.ring c.args.key.now.secret.ring.now in
    let s = c.args.key.now.secret.shape in
    let S = rows_whole R c.args.key.now.secret.run.now s c.args.b.now c.args.point.now c.second_rows.new.rows c.requires.side c.second_rows.ensures in
    let p = err_from_is_err_and c.from_residual.result c.from_residual.ensures.1 in
    rw (p.1, p.2) (dependent_ext R s.o2 _ _ _ S.system (rw c.in_err-unwrap.ensures at c.solve.ensures).1)

pub returns : goal.returns
returns g c =
    let R = g.F.Ring.ring c.args.key.now.secret.ring.now in
    let s = c.args.key.now.secret.shape in
    let S = rows_whole R c.args.key.now.secret.run.now s c.args.b.now c.args.point.now c.second_rows.new.rows c.requires.side c.second_rows.ensures in
    let n = length_later c.args.point.now (s.v1 + s.o1) in
    second_solved R c.args.key.now.secret.run.now s (λ r. get_or c.args.b.now r 0) c.second_rows.new.rows c.solve.new.rows c.args.point.now c.read_column.new.column c.requires.point (omega arith) S (rw c.in_ok-unwrap.ensures at c.solve.ensures).1
    (λ k l. c.read_column.ensures k (omega arith))
