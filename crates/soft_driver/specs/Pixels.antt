-- What is read of a frame: rows of pixels, and rectangles of them. The frame stands in fragment_ops, and what a call draws in Own.antt.
use Rattle.std.specs.Prelude.{ℕ, ℤ, pos, ◌+ℤ◌, List}
use Rattle.std.specs.List.{flat_map, range_with_len}
use Rattle.fragment_ops.specs.Frame.{FrameView, pixel_at}

-- the bytes of a row of so many pixels from a column on; section 4.3.1
unfoldable pub row_read : FrameView → ℤ → ℤ → ℕ → List ℕ
row_read frame x row width = flat_map (λ column. pixel_at frame (x +ℤ pos column) row) (range_with_len 0 width)

-- the bytes of a rectangle of pixels from its lower left corner on, row by row; section 4.3.1
unfoldable pub bytes_read : FrameView → ℤ → ℤ → ℕ → ℕ → List ℕ
bytes_read frame x y width height = flat_map (λ row. row_read frame x (y +ℤ pos row) width) (range_with_len 0 height)
