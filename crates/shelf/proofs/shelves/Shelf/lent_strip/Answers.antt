use Rattle.shelf.proofs.shelves.Shelf.lent_strip.Goals as goal

pub returns : goal.returns
returns g c =
    let run = c.byte_run.ensures (g.F.Ring.ring c.args.self.now.field).q in
    cc
