-- The masks of a secret key and their inverses. Assumes nothing.
use Rattle.algebra.specs.Rings.{Ring, RingLaws}
use Rattle.algebra.proofs.Masks.{mask_s_inverse, mask_t_inverse}
use Rattle.maps.specs.SecretKeys.{outer_mask, inner_mask, outer_inverse, inner_inverse, block_s, block_t1, block_t3, block_t4, EveryMaskUndone}

pub masks_undone : (R : Ring) → RingLaws R → EveryMaskUndone R
unfolding outer_mask inner_mask outer_inverse inner_inverse
masks_undone R L run s = record {
  outer = mask_s_inverse R L s.o1 s.o2 (block_s R.q run s);
  inner = mask_t_inverse R L s.v1 s.o1 s.o2 (block_t1 R.q run s) (block_t3 R.q run s) (block_t4 R.q run s);
}
