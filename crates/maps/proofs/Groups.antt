-- Pairs, and the groups of variables. Assumes nothing.
use Rattle.std.proofs.Common.{◌≡◌, ℕ, zero, suc, ◌+◌, ◌-◌, ◌*◌, ◌≤◌, ap, suc-mul, mul-suc, arith}
use Rattle.matrices.specs.QuadraticSystems.{pairs_before}

-- i (2 n - i + 1) / 2 pairs before row i
pub rows_closed : (n i : ℕ) → i ≤ n → i * (2 * n - i + 1) ≡ 2 * pairs_before n i
unfolding pairs_before
rows_closed n zero h = omega arith
rows_closed n (suc k) h =
    let ih = rows_closed n k (omega arith) in
    let e : 2 * n - suc k + 1 ≡ 2 * n - k = omega arith in
    let s : suc k * (2 * n - suc k + 1) ≡ suc k * (2 * n - k) = ap (λ (d : ℕ). suc k * d) e in
    let t = suc-mul k (2 * n - k) in
    let u = mul-suc k (2 * n - k) in
    omega arith
