use Rattle.std.proofs.Common.{◌≡◌, length, get_or, sym, arith, rules}
use Rattle.maps.specs.SecretKeys.{group_size}
use Rattle.signing.specs.Layers.{system_entry}
use Rattle.signing.proofs.Columns.{system_more}
use Rattle.signing.proofs.layers.Layer.system.Goals as goal

pub loop-c-preserved : goal.loop-c-preserved
loop-c-preserved g c =
    let R = g.R.Ring.ring c.args.self.now.secret.now.ring.now in
    let s = c.args.self.now.secret.now.shape in
    let n = group_size s c.args.self.now.number in
    let len : length c.sum_column.new.column ≡ n = search rules in
    system_more c.args.width n (length c.sum_column.new.column) c.loop-c.c (system_entry R c.args.self.now.secret.now.run.now s c.args.self.now.number (λ i. get_or c.args.self.now.x.now i 0)) _ c.args.rows.now c.loop-c.rows c.put_column.new.rows (sym len) (omega arith) c.sum_column.ensures c.put_column.ensures c.loop-c.invariant.0 c.loop-c.invariant.1
