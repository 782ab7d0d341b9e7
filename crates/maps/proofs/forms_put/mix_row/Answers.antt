use Rattle.std.proofs.Common.{◌∙◌, inl, inr, arith}
use Rattle.maps.proofs.Mixing.{mixed_there, mixed_small}
use Rattle.maps.proofs.forms_put.mix_row.Goals as goal

pub put_row-requires-clause-codes : goal.put_row-requires-clause-codes
put_row-requires-clause-codes g c =
    mixed_small (g.R.Ring.ring c.args.ring.now) (g.met.R.Ring.laws c.args.ring.now) c.args.mask.now c.args.public.now c.args.m c.args.at c.requires.mask (omega arith) c.zeros-x.result c.zeros-y.result c.read_codes.new.codes c.apply.new.image c.apply.result c.zeros-x.ensures c.zeros-y.ensures c.read_codes.ensures c.apply.ensures c.apply.auto.image

pub returns : goal.returns
returns g c =
    let there = mixed_there (g.R.Ring.ring c.args.ring.now) (g.met.R.Ring.laws c.args.ring.now) c.args.mask.now c.args.public.now c.args.m c.args.at c.requires.mask (omega arith) c.zeros-x.result c.zeros-y.result c.read_codes.new.codes c.apply.new.image c.apply.result c.zeros-x.ensures c.zeros-y.ensures c.read_codes.ensures c.apply.ensures in
    record {
      done = λ e h. c.put_row.ensures.done e (omega arith) ∙ there e h;
      kept = λ k h. c.put_row.ensures.kept k (elim h [ inl l ↦ inl l | inr l ↦ inr (omega arith) ]);
    }
