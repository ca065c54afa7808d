-- Lists in a room that was asked for before; own.
use Rattle.std.specs.Prelude.{ℕ, ◌≤◌, List}

-- a list in a room for so many; own
pub record RoomView (A : Type 0) : Type 0 where
  pub items : List A
  pub room : ℕ

-- a list is no longer than its room, for which memory was asked; own
pub record FitsRoom (count room capacity : ℕ) : Type 0 where
  pub within : count ≤ room
  pub reserved : room ≤ capacity
