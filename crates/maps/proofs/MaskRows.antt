-- Entries of the masks and of their inverses by their parts. Assumes nothing.
use Rattle.std.proofs.Common.{◌≡◌, ℕ, ◌+◌, ◌<◌, ◌≤◌, ◌⊎◌, List, refl, arith}
use Rattle.std.proofs.lemmas.Bool.Decides.{nat_tests}
use Rattle.algebra.specs.Rings.{Ring}
use Rattle.algebra.specs.Masks.{mask_s, mask_t, negated, second_of}
use Rattle.keys.specs.declared.shapes.Shape.{Shape}
use Rattle.maps.specs.declared.blocks.Block.{Block}
use Rattle.maps.specs.declared.blocks.Block.TheVariants.{S, T1, T3}
use Rattle.maps.specs.declared.mask_backs.Mask.{Mask}
use Rattle.maps.specs.declared.mask_backs.Mask.TheVariants.{Outer, Inner}
use Rattle.maps.specs.SecretKeys.{block_t1, block_t3, block_t4, block_of, outer_mask, inner_mask, outer_inverse, inner_inverse, Blocks, mask_with, mask_of, mask_inverse}

module _ (R : Ring) (run : List ℕ) (s : Shape) where
  pub mask_is : (k : Mask) (i j : ℕ) → mask_of k R run s i j ≡ mask_with k s (block_of R.q run s) (second_of R s.o1 (block_t1 R.q run s) (block_t3 R.q run s) (block_t4 R.q run s)) i j
  unfolding outer_mask inner_mask
  mask_is Outer i j = refl
  mask_is Inner i j = refl

  -- the blocks of the inverses
  unfoldable pub back_blocks : Blocks
  back_blocks b = negated R (block_of R.q run s b)

  pub inverse_is : (k : Mask) (i j : ℕ) → mask_inverse k R run s i j ≡ mask_with k s back_blocks (block_t4 R.q run s) i j
  unfolding outer_inverse inner_inverse back_blocks
  inverse_is Outer i j = refl
  inverse_is Inner i j = refl

  pub back_block : (b : Block) (i j : ℕ) → back_blocks b i j ≡ R.neg (block_of R.q run s b i j)
  unfolding back_blocks negated
  back_block b i j = refl

-- what stands on the diagonal, and left of a row's blocks
module _ (o1 : ℕ) (B : ℕ → ℕ → ℕ) (e f : ℕ) where
  pub s_one : e ≡ f → mask_s o1 B e f ≡ 1
  unfolding mask_s
  s_one h = grind (arith, nat_tests)

  pub s_zero : (e ≡ f → ⊥) → (o1 ≤ e) ⊎ (f < o1) → mask_s o1 B e f ≡ 0
  unfolding mask_s
  s_zero n h = grind (arith, nat_tests)

module _ (v1 o1 : ℕ) (T1 T2 T3 : ℕ → ℕ → ℕ) (i j : ℕ) where
  pub t_one : i ≡ j → mask_t v1 o1 T1 T2 T3 i j ≡ 1
  unfolding mask_t
  t_one h = grind (arith, nat_tests)

  pub t_first : (i ≡ j → ⊥) → j < v1 → mask_t v1 o1 T1 T2 T3 i j ≡ 0
  unfolding mask_t
  t_first n h = grind (arith, nat_tests)

  pub t_next : (i ≡ j → ⊥) → v1 ≤ i → (v1 + o1 ≤ i) ⊎ (j < v1 + o1) → mask_t v1 o1 T1 T2 T3 i j ≡ 0
  unfolding mask_t
  t_next n h k = grind (arith, nat_tests)

pub mask_one : (k : Mask) (s : Shape) (B : Blocks) (C : ℕ → ℕ → ℕ) (i : ℕ) → mask_with k s B C i i ≡ 1
mask_one Outer s B C i = s_one s.o1 (B S) i i refl
mask_one Inner s B C i = t_one s.v1 s.o1 (B T1) C (B T3) i i refl
