use Rattle.std.proofs.Common.{◌≡◌, ◌+◌, ◌*◌, length, refl, sym, subst, arith}
use Rattle.matrices.specs.Linear.{LeftInverts}
use Rattle.matrices.proofs.Columns.{apart}
use Rattle.matrices.proofs.Units.{units_codes, left_inverts}
use Rattle.matrices.proofs.systems.invert_rows.Goals as goal

pub returns-in_err-answer : goal.returns-in_err-answer
returns-in_err-answer g c =
    let R = g.F.Ring.ring c.args.field.now in
    let L = g.met.F.Ring.laws c.args.field.now in
    let n = c.args.order in
    let old = c.args.rows.now in
    let rows = c.put_units.new.rows in
    let len : length rows ≡ n * (n + n) = omega arith in
    subst (λ r. LeftInverts R old n c.args.inverse.now r c.args.inverse.now) (sym c.from_residual.ensures)
    (λ F. apart R rows n n (record { places = len; codes = units_codes R L old rows n c.put_units.ensures len F.codes }) c.in_err-answer.ensures.0, refl)

pub returns-then-is_ok : goal.returns-then-is_ok
returns-then-is_ok g c =
    left_inverts (g.F.Ring.ring c.args.field.now) (g.met.F.Ring.laws c.args.field.now) c.args.rows.now c.put_units.new.rows c.eliminate.new.rows c.args.order c.in_ok-answer.answer c.args.inverse.now c.read_right.new.block c.requires c.put_units.ensures c.in_ok-answer.ensures.0.codes c.in_ok-answer.ensures.1 (omega arith) (λ _. c.read_right.ensures) (λ e. cc)

pub returns-else-is_ok : goal.returns-else-is_ok
returns-else-is_ok g c =
    left_inverts (g.F.Ring.ring c.args.field.now) (g.met.F.Ring.laws c.args.field.now) c.args.rows.now c.put_units.new.rows c.eliminate.new.rows c.args.order c.in_ok-answer.answer c.args.inverse.now c.args.inverse.now c.requires c.put_units.ensures c.in_ok-answer.ensures.0.codes c.in_ok-answer.ensures.1 (omega arith) (λ e. cc) (λ _. refl)
