use Rattle.std.proofs.Common.{◌≡◌, sym, subst, inl, inr, arith}
use Rattle.maps.specs.declared.blocks.Block.TheVariants.{S, T1, T3}
use Rattle.maps.specs.declared.mask_backs.Mask.{Mask}
use Rattle.maps.specs.SecretKeys.{mask_with}
use Rattle.maps.proofs.MaskRows.{s_zero, t_first, t_next}
use Rattle.maps.proofs.mask_backs.Mask.reach.Goals as goal
use Rattle.maps.proofs.mask_backs.Mask.reach.Goals.{in-Outer, in-Inner, in-Inner-2}

pub returns-then-i-first-clause-identity : goal.returns-then-i-first-clause-identity
returns-then-i-first-clause-identity c = λ B C j l n.
    let s = c.args.shape.now in
    let i = c.args.i in
    elim c.match-self.branch [
      | in-Outer w ↦ subst (λ (m : Mask). mask_with m s B C i j ≡ 0) (sym w.in-Outer.is) (s_zero s.o1 (B S) i j n (inr (omega arith)))
      | in-Inner w ↦ subst (λ (m : Mask). mask_with m s B C i j ≡ 0) (sym w.in-Inner.is) (t_first s.v1 s.o1 (B T1) C (B T3) i j n (omega arith))
      | in-Inner-2 w ↦ subst (λ (m : Mask). mask_with m s B C i j ≡ 0) (sym w.in-Inner-2.is) (t_next s.v1 s.o1 (B T1) C (B T3) i j n (omega arith) (inr (omega arith)))
    ]

pub returns-else-i-first-clause-identity : goal.returns-else-i-first-clause-identity
returns-else-i-first-clause-identity c = λ B C j l n.
    let s = c.args.shape.now in
    let i = c.args.i in
    elim c.match-self.branch [
      | in-Outer w ↦ subst (λ (m : Mask). mask_with m s B C i j ≡ 0) (sym w.in-Outer.is) (s_zero s.o1 (B S) i j n (inl (omega arith)))
      | in-Inner w ↦ absurd (omega arith)
      | in-Inner-2 w ↦ subst (λ (m : Mask). mask_with m s B C i j ≡ 0) (sym w.in-Inner-2.is) (t_next s.v1 s.o1 (B T1) C (B T3) i j n (omega arith) (inl (omega arith)))
    ]
