use Rattle.std.proofs.Common.{ap}
use Rattle.keys.specs.declared.shapes.Shape.{Shape}
use Rattle.keys.specs.Shapes.{sign_workspace}
use Rattle.shelf.proofs.shelves.Shelf.prepare_lent.Goals as goal

pub returns : goal.returns
returns g c =
    let room = c.workspace.ensures (g.F.Ring.ring c.args.self.now.field).q in
    cc (ap (λ (s : Shape). s.v1) c.shape-shape.ensures, ap sign_workspace c.shape-shape.ensures)
