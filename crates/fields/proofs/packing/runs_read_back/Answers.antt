use Rattle.fields.proofs.Runs.{read_back}
use Rattle.fields.proofs.packing.runs_read_back.Goals as goal

pub returns : goal.returns
returns g c = read_back (g.R.Ring.ring c.args.ring.now).q
