use Rattle.shelf.proofs.shelves.Shelf.make_lent.Goals as goal

pub returns : goal.returns
returns g c =
    let room = c.space.ensures (g.F.Ring.ring c.args.self.now.field).q in
    cc
