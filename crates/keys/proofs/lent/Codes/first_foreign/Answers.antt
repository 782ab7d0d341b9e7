use Rattle.std.proofs.Common.{rules, ◌≡◌, ℕ, ◌+◌, ◌≤◌, leb, take, sym, ap, ◌∙◌, arith}
use Rattle.std.specs.List.{position}
use Rattle.std.specs.Option.{option_map}
use Rattle.keys.proofs.Bytes.{foreign_byte}
use Rattle.keys.proofs.lent.Codes.first_foreign.Goals as goal

pub returns-in-Bytes : goal.returns-in-Bytes
returns-in-Bytes g c =
    let q = (g.R.Ring.ring c.args.ring.now).q in
    let low : 2 ≤ q = (g.met.R.Ring.laws c.args.ring.now).q_low in
    let next : c.map.result ≡ option_map (λ k. k + 1) c.first_from.result = search rules in
    let found : c.first_from.result ≡ position (λ b. leb q b) (take c.in-Bytes.n c.in-Bytes.bytes.now) = c.first_from.ensures ∙ ap (λ (m : ℕ). position (λ b. leb m b) (take c.in-Bytes.n c.in-Bytes.bytes.now)) c.size.ensures in
    rw c.in-Bytes.is (next ∙ ap (option_map (λ k. k + 1)) found ∙ sym (foreign_byte q c.in-Bytes.bytes.now c.in-Bytes.n (omega arith)))
