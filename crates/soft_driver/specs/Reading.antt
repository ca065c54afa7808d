-- Which columns of a row that is read lie inside the frame, and which beside it; own. What is read is told in Pixels.antt.
use Rattle.std.specs.Prelude.{ℕ, ◌<◌, ◌≤◌, ℤ, pos, ◌+ℤ◌, ◌<ℤ◌, ◌≤ℤ◌, List}
use Rattle.std.specs.List.{flat_map, range_with_len}
use Rattle.fragment_ops.specs.Frame.{FrameView, pixel_at}

-- the bytes of so many pixels of a row, which is counted from column x on, from one of them on; own
unfoldable pub columns_read : FrameView → ℤ → ℤ → ℕ → ℕ → List ℕ
columns_read frame x row first count = flat_map (λ column. pixel_at frame (x +ℤ pos column) row) (range_with_len first count)

-- a column lies inside a frame of this width; own
pub record IsInside (column : ℤ) (side : ℕ) : Type 0 where
  pub low : pos 0 ≤ℤ column
  pub high : column <ℤ pos side

-- so many columns from x on in three parts: those left of a frame of this width, those inside it, and those right of it; own
pub record Divides (x : ℤ) (side width first until : ℕ) : Type 0 where
  pub ordered : first ≤ until
  pub within : until ≤ width
  pub left : (column : ℕ) → column < first → (x +ℤ pos column) <ℤ pos 0
  pub inside : (column : ℕ) → first ≤ column → column < until → IsInside (x +ℤ pos column) side
  pub right : (column : ℕ) → until ≤ column → column < width → pos side ≤ℤ (x +ℤ pos column)
