use Rattle.std.proofs.Common.{ℕ, ◌-◌, ◌*◌, ◌%◌, length, ap, arith}
use Rattle.keys.specs.Shapes.{place_length}
use Rattle.shelf.proofs.PlacesOf.{place_inside}
use Rattle.shelf.proofs.shelves.Shelf.place_start.Goals as goal

pub returns : goal.returns
returns g c =
    let i = c.args.self.now.inner in
    let len = place_length c.args.shape.now in
    let value = ap (λ (k : ℕ). (c.args.number - 1) % i.places * k) c.place_len.ensures.value in
    let inside = place_inside i.places c.args.number len (length c.args.strip.now) c.requires.0 c.requires.1.1 in
    record { value = value; inside = omega arith }
