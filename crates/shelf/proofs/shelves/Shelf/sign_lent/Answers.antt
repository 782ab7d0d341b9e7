use Rattle.std.proofs.Common.{ap}
use Rattle.keys.specs.Shapes.{variables, equations, sign_workspace}
use Rattle.shelf.proofs.shelves.Shelf.sign_lent.Goals as goal

pub returns : goal.returns
returns g c =
    let q = (g.F.Ring.ring c.args.self.now.field).q in
    let signature = c.space.ensures q in
    let room = c.workspace.ensures q in
    cc (ap variables c.shape-shape.ensures, ap equations c.shape-shape.ensures, ap sign_workspace c.shape-shape.ensures)
