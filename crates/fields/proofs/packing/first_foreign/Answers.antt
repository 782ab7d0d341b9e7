use Rattle.std.proofs.Common.{◌<◌, ◌≤◌, sym, ◌∙◌, inl, inr, add-one, arith}
use Rattle.fields.specs.Packing.{code_at}
use Rattle.fields.proofs.Runs.{foreign_more, foreign_found, none_foreign, full_16, full_256}
use Rattle.fields.proofs.packing.first_foreign.Goals as goal

pub returns-then-q-eq16 : goal.returns-then-q-eq16
returns-then-q-eq16 g c =
    let q = (g.R.Ring.ring c.args.ring.now).q in
    let run = c.args.run.now in
    elim c.then-q-eq16.either [
      | inl e ↦ sym (none_foreign q (code_at q run) c.args.n (λ k _. full_16 q run (sym c.size-q.ensures ∙ e) c.type_inv.run k))
      | inr e ↦ sym (none_foreign q (code_at q run) c.args.n (λ k _. full_256 q run (sym c.size-q.ensures ∙ e.1) c.type_inv.run k))
    ]

pub loop-k-preserved : goal.loop-k-preserved
loop-k-preserved g c =
    let q = (g.R.Ring.ring c.args.ring.now).q in
    let run = c.args.run.now in
    let k = c.loop-k.k in
    let less : code_at q run k < q = omega arith in
    rw add-one (foreign_more q (code_at q run) k c.loop-k.invariant less)

pub returns-then-read_code-q : goal.returns-then-read_code-q
returns-then-read_code-q g c =
    let q = (g.R.Ring.ring c.args.ring.now).q in
    let run = c.args.run.now in
    let k = c.loop-k.k in
    let more : q ≤ code_at q run k = omega arith in
    rw add-one (sym (foreign_found q (code_at q run) k c.args.n c.loop-k.invariant more (omega arith)))

pub loop-k-init : goal.loop-k-init
loop-k-init g c = none_foreign _ _ 0 (λ k l. absurd (omega arith))
