-- Images as bytes in the form PPM with the magic P6, and the names of their files; own.
use Rattle.std.specs.Prelude.{ℕ, zero, suc, ◌*◌, List, [], ◌∷◌, ◌++◌, take, drop, codes}
use Rattle.std.specs.Fmt.{decimal}
use Rattle.std.specs.List.{flat_map}
use Rattle.fragment_ops.specs.declared.cell.Cell.{Cell}

-- red, green and blue of bytes that are four a pixel; own
abbrev pub colours_of : List ℕ → List ℕ
colours_of (red ∷ green ∷ blue ∷ alpha ∷ bytes) = red ∷ green ∷ blue ∷ colours_of bytes
colours_of bytes = []

-- the bytes of a row of so many pixels, counted from the bottom, from 0; own
unfoldable pub row_of : ℕ → ℕ → List ℕ → List ℕ
row_of width row bytes = take (width * 4) (drop (row * width * 4) bytes)

-- the colours of the lowest so many rows, the highest first; own
abbrev pub rows_from_top : ℕ → ℕ → List ℕ → List ℕ
rows_from_top width zero bytes = []
rows_from_top width (suc rows) bytes = colours_of (row_of width rows bytes) ++ rows_from_top width rows bytes

-- the head of an image of these sides; own
unfoldable pub ppm_head : ℕ → ℕ → List ℕ
ppm_head width height = codes "P6\n" ++ (decimal width ++ (codes " " ++ (decimal height ++ codes "\n255\n")))

-- the image of bytes that are four a pixel, the first row as the bottom one: its head, and then its rows from the top; own
unfoldable pub ppm_of : ℕ → ℕ → List ℕ → List ℕ
ppm_of width height bytes = ppm_head width height ++ rows_from_top width height bytes

-- red, green and blue of cells; own
abbrev pub colours_in : List Cell → List ℕ
colours_in cells = flat_map (λ cell. colours_of cell.colour) cells

-- the cells of a row of so many, counted from the bottom, from 0; own
unfoldable pub cells_of : ℕ → ℕ → List Cell → List Cell
cells_of width row cells = take width (drop (row * width) cells)

-- the colours of the lowest so many rows of cells, the highest first; own
abbrev pub cells_from_top : ℕ → ℕ → List Cell → List ℕ
cells_from_top width zero cells = []
cells_from_top width (suc rows) cells = colours_in (cells_of width rows cells) ++ cells_from_top width rows cells

-- the image of the cells of a frame, the first row as the bottom one: its head, and then its rows from the top; own
unfoldable pub ppm_of_cells : ℕ → ℕ → List Cell → List ℕ
ppm_of_cells width height cells = ppm_head width height ++ cells_from_top width height cells

-- the name of the frame of a context; own
unfoldable pub frame_name : ℕ → List ℕ
frame_name context = codes "frame-" ++ (decimal context ++ codes ".ppm")

-- the name of an image that a line names so; own
unfoldable pub image_name : List ℕ → List ℕ
image_name name = codes "image-" ++ (name ++ codes ".ppm")
