-- Depths between those of the planes fit their type.
use Rattle.std.proofs.Common.{◌≡◌, ℕ, ◌+◌, ◌-◌, ◌*◌, ◌/◌, ◌^◌, ◌<◌, ◌≤◌, ℤ, pos, negsuc, ◌≤ℤ◌, subst, w32, to_z, of_z, arith}
use Rattle.std.specs.Prelude.{unsigned_abs}
use Rattle.std.proofs.lemmas.Int.{ints}
use Rattle.std.proofs.lemmas.Nat.{mul-le}
use Rattle.fragment_ops.specs.State.{IsWithinOne}

share_few : (z : ℤ) → IsWithinOne z → unsigned_abs z ≤ 65536
share_few (pos n) is = omega (arith, ints, is.high)
share_few (negsuc n) is = absurd (omega (arith, ints, is.low))

-- a fixed number of 0 to 1 without its sign, as it is read
pub share_read : (z : ℤ) → IsWithinOne z → unsigned_abs (to_z w32 (of_z w32 z)) ≤ 65536
share_read z is =
    let low : pos 0 ≤ℤ z = is.low in
    let high : z ≤ℤ pos 65536 = is.high in
    let same : z ≡ to_z w32 (of_z w32 z) = omega (arith, ints) in
    subst (λ (v : ℤ). unsigned_abs v ≤ 65536) same (share_few z is)

pub between_few : (near far depth : ℕ) → near ≤ 65536 → far ≤ 65536 → depth ≤ 65535 → (near * (65535 - depth) + far * depth) / 65536 < 2 ^ 16
between_few near far depth near_few far_few few =
    let one = mul-le near (65535 - depth) 65536 (65535 - depth) near_few (omega arith) in
    let other = mul-le far depth 65536 depth far_few (omega arith) in
    omega (arith, one, other)
