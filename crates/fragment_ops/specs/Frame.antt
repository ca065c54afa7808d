-- The frame: its cells row by row, the frame at the start, changes made at each place, and what is read at a place.
use Rattle.std.specs.Prelude.{◌≡◌, ℕ, suc, ◌+◌, ◌*◌, ◌/◌, ◌%◌, ◌≤◌, ◌==◌, nat_lt, ℤ, pos, Bool, false, ◌&&◌, if◌then◌else◌, List, [], ◌∷◌, length, replicate, slice_index_or, Option, Some, None}
use Rattle.fragment_ops.specs.declared.cell.Cell.{Cell}
use Rattle.fragment_ops.specs.declared.place.Place.{Place}
use Rattle.fragment_ops.specs.Cell.{is_within}

-- a rectangle of cells: its sides in pixels, and its cells row by row from the lower left corner on; own
pub record FrameView : Type 0 where
  pub width : ℕ
  pub height : ℕ
  pub cells : List Cell

-- sides of 1 to 256 pixels; own
pub record AreSides (width height : ℕ) : Type 0 where
  pub wide : 1 ≤ width
  pub no_wider : width ≤ 256
  pub high : 1 ≤ height
  pub no_higher : height ≤ 256

-- sides within their limits, and a cell for each place; own
pub record IsFrame (frame : FrameView) : Type 0 where
  pub sides : AreSides frame.width frame.height
  pub count : length frame.cells ≡ frame.width * frame.height

-- a colour in which every byte is 0; own
abbrev pub no_colour : List ℕ
no_colour = replicate 4 0

-- a cell at the start: every byte of its colour is 0, and its depth is the greatest; own
abbrev pub first_cell : Cell
first_cell = record { colour = no_colour; depth = 65535 }

-- the frame of a context at the start; own
unfoldable pub first_frame : ℕ → ℕ → FrameView
first_frame width height = record { width = width; height = height; cells = replicate (width * height) first_cell }

-- the place of a cell of a frame of this width, by how many cells come before it; own
abbrev pub place_at : ℕ → ℕ → Place
place_at width before = record { column = before % width; row = before / width }

-- cells after a change, so many cells coming before them: each is what the change makes of how many come before it and of what it was; own
unfoldable pub changed_from : (ℕ → Cell → Cell) → ℕ → List Cell → List Cell
changed_from change before [] = []
changed_from change before (cell ∷ cells) = change before cell ∷ changed_from change (suc before) cells

-- a frame after a change: at each place what the change makes of the place and of the cell that was there; own
unfoldable pub frame_changed : (Place → Cell → Cell) → FrameView → FrameView
frame_changed change frame = record frame { cells = changed_from (λ before. change (place_at frame.width before)) 0 frame.cells }

-- a place is the one in column x and row y; own
unfoldable pub is_at : ℤ → ℤ → Place → Bool
is_at (pos column) (pos row) place = column == place.column && row == place.row
is_at x y place = false

-- a change made at the place in column x and row y alone: every other cell stays; own
unfoldable pub only_at : ℤ → ℤ → (Place → Cell → Cell) → Place → Cell → Cell
only_at x y change place old = if is_at x y place then change place old else old

-- a place is one of so many of row y, from column x on; own
unfoldable pub is_among : ℤ → ℤ → ℕ → Place → Bool
is_among x y count place = is_within (x ∷ y ∷ pos count ∷ pos 1 ∷ []) place

-- a change made at so many places of row y, from column x on, alone: every other cell stays; own
unfoldable pub only_among : ℤ → ℤ → ℕ → (Place → Cell → Cell) → Place → Cell → Cell
only_among x y count change place old = if is_among x y count place then change place old else old

-- the cell at a place of a frame; own
unfoldable pub cell_at : FrameView → Place → Cell
cell_at frame place = slice_index_or frame.cells (place.row * frame.width + place.column) first_cell

-- the place in column x and row y, counted from the lower left corner, if the frame has it; own
abbrev pub place_in : FrameView → ℤ → ℤ → Option Place
place_in frame (pos column) (pos row) = if nat_lt column frame.width && nat_lt row frame.height then Some (record { column = column; row = row }) else None
place_in frame x y = None

-- the colour at a place, and zeros where there is none; section 4.3.1, the zeros own
abbrev pub colour_at : FrameView → Option Place → List ℕ
colour_at frame (Some place) = (cell_at frame place).colour
colour_at frame None = no_colour

-- the colour in column x and row y, counted from the lower left corner: zeros outside the frame; section 4.3.1, the zeros own
abbrev pub pixel_at : FrameView → ℤ → ℤ → List ℕ
pixel_at frame x y = colour_at frame (place_in frame x y)
