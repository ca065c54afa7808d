-- The cells of an area of a frame, row by row, for private clauses. What Clear makes of a frame is told in Cell.antt and Frame.antt.
use Rattle.std.specs.Prelude.{◌≡◌, ℕ, ◌≤◌, nat_le, nat_lt, Bool, true, false, ◌&&◌, if◌then◌else◌, List, [], ◌∷◌}
use Rattle.fragment_ops.specs.declared.cell.Cell.{Cell}
use Rattle.fragment_ops.specs.declared.area.Area.{Area}
use Rattle.fragment_ops.specs.declared.place.Place.{Place}
use Rattle.fragment_ops.specs.declared.state.FragmentState.{FragmentState}
use Rattle.fragment_ops.specs.Cell.{Fragment, cell_written, passes_alpha, passes_depth}
use Rattle.fragment_ops.specs.Frame.{place_at}

-- an area lies inside a frame of these sides; own
pub record IsArea (area : Area) (width height : ℕ) : Type 0 where
  pub across : area.left ≤ area.right
  pub within_width : area.right ≤ width
  pub upwards : area.bottom ≤ area.top
  pub within_height : area.top ≤ height

-- a place lies in an area; own
unfoldable pub is_in_area : Area → Place → Bool
is_in_area area place = (nat_le area.left place.column && nat_lt place.column area.right) && (nat_le area.bottom place.row && nat_lt place.row area.top)

-- a change of those cells of a frame of this width that lie in an area; own
unfoldable pub in_area : Area → (Cell → Cell) → ℕ → ℕ → Cell → Cell
in_area area change width before old = if is_in_area area (place_at width before) then change old else old

-- a change of those cells that have from `first` to fewer than `until` others before them; own
unfoldable pub in_run : ℕ → ℕ → (Cell → Cell) → ℕ → Cell → Cell
in_run first until change before old = if nat_le first before && nat_lt before until then change old else old

-- a cell that is cleared has nothing of what it was: the colour and the depth are asked for, and no mask is off; own
pub record Overwrites (state : FragmentState) (colour depth : Bool) : Type 0 where
  pub asks_colour : colour ≡ true
  pub asks_depth : depth ≡ true
  pub depth_mask : state.depth_mask ≡ true
  pub colour_mask : state.colour_mask ≡ true ∷ true ∷ true ∷ true ∷ []

-- a cell after a fragment came to its place, which passes the scissor test; sections 4.1.4, 4.1.6 and 4.1.7
unfoldable pub cell_tested : FragmentState → Fragment → Cell → Cell
cell_tested state fragment old = if passes_alpha state fragment then (if passes_depth state fragment old then cell_written state fragment old else old) else old

-- a fragment that passed the scissor test gives a cell its colour alone: no other test is on, nothing is blended, and no mask is off; own
pub record Paints (state : FragmentState) : Type 0 where
  pub untested : state.alpha_on ≡ false
  pub no_depth : state.depth_on ≡ false
  pub unblended : state.blend_on ≡ false
  pub colour_mask : state.colour_mask ≡ true ∷ true ∷ true ∷ true ∷ []

-- a cell with another colour, and the depth that it had; own
unfoldable pub cell_painted : List ℕ → Cell → Cell
cell_painted colour old = record { colour = colour; depth = old.depth }
