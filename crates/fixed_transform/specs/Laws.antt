-- What floors and roots are, by inequalities.
use Rattle.std.specs.Prelude.{ℕ, ◌+◌, ◌*◌, ◌<◌, ◌≤◌, ℤ, pos, neg_ℤ, ◌+ℤ◌, ◌*ℤ◌, ◌<ℤ◌, ◌≤ℤ◌}
use Rattle.fixed_transform.specs.Fixed.{floor}
use Rattle.fixed_transform.specs.Axis.{floor_root}

-- q is the greatest whole number that is at most a / b, where b is above zero; own
pub record IsFloor (a b q : ℤ) : Type 0 where
  pub at_most : (q *ℤ b) ≤ℤ a
  pub next_past : a <ℤ ((q +ℤ pos 1) *ℤ b)

-- a floor is that, and a divisor below zero changes the signs of both numbers; own
pub record FloorIsGreatest (a b : ℤ) : Type 0 where
  pub above_zero : pos 0 <ℤ b → IsFloor a b (floor a b)
  pub below_zero : b <ℤ pos 0 → IsFloor (neg_ℤ a) (neg_ℤ b) (floor a b)

-- r is the greatest number whose square is at most n; own
pub record IsFloorRoot (n r : ℕ) : Type 0 where
  pub at_most : r * r ≤ n
  pub next_past : n < (r + 1) * (r + 1)

-- a root is that; own
abbrev pub RootIsGreatest : ℕ → Type 0
RootIsGreatest n = IsFloorRoot n (floor_root n)
