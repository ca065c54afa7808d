-- Images, row by row from the top.
use Rattle.std.proofs.Common.{◌≡◌, ℕ, zero, suc, ◌+◌, ◌*◌, ◌<◌, ◌≤◌, List, [], ◌∷◌, ◌++◌, length, get_or, take, drop, min, refl, ap, sym, ◌∙◌, append_assoc, arith}
use Rattle.std.proofs.lemmas.List.{length-append, length-take}
use Rattle.std.proofs.Math.Nat.{mul-suc}
use Rattle.std.proofs.Math.Seq.{drop-append-add, take-append-add}
use Rattle.fragment_ops.specs.declared.cell.Cell.{Cell}
use Rattle.replay_text.specs.Ppm.{cells_from_top, cells_of, colours_in, colours_of, ppm_head, ppm_of, row_of, rows_from_top}

-- three bytes of at most four
length-colours_of : (n : ℕ) (bytes : List ℕ) → length bytes ≤ n * 4 → length (colours_of bytes) ≤ 3 * n
length-colours_of n [] few = omega arith
length-colours_of n (a ∷ []) few = omega arith
length-colours_of n (a ∷ b ∷ []) few = omega arith
length-colours_of n (a ∷ b ∷ c ∷ []) few = omega arith
length-colours_of zero (a ∷ b ∷ c ∷ d ∷ bytes) few = absurd (omega arith)
length-colours_of (suc n) (a ∷ b ∷ c ∷ d ∷ bytes) few =
    let fewer : length bytes ≤ n * 4 = omega arith in
    let others = length-colours_of n bytes fewer in
    omega arith

-- a row has at most four bytes a pixel
length-row_of : (width row : ℕ) (bytes : List ℕ) → length (row_of width row bytes) ≤ width * 4
unfolding row_of
length-row_of width row bytes =
    let taken : length (take (width * 4) (drop (row * width * 4) bytes)) ≡ min (width * 4) (length (drop (row * width * 4) bytes)) = length-take (width * 4) (drop (row * width * 4) bytes) in
    omega arith

-- three bytes a pixel of the rows
length-rows_from_top : (width rows : ℕ) (bytes : List ℕ) → length (rows_from_top width rows bytes) ≤ 3 * (width * rows)
length-rows_from_top width zero bytes = omega arith
length-rows_from_top width (suc rows) bytes =
    let both = length-append (colours_of (row_of width rows bytes)) (rows_from_top width rows bytes) in
    let row = length-colours_of width (row_of width rows bytes) (length-row_of width rows bytes) in
    let others = length-rows_from_top width rows bytes in
    let more = mul-suc width rows in
    omega arith

-- a row behind what stands, and then the rows below it
pub row_written : (items bytes row whole : List ℕ) (width rows below : ℕ) → rows ≡ suc below → row ≡ row_of width below bytes → items ++ rows_from_top width rows bytes ≡ whole → (items ++ colours_of row) ++ rows_from_top width below bytes ≡ whole
row_written items bytes row whole width rows below next is_row left =
    append_assoc items (colours_of row) (rows_from_top width below bytes)
    ∙ ap (λ (bytes_of_row : List ℕ). items ++ (colours_of bytes_of_row ++ rows_from_top width below bytes)) is_row
    ∙ ap (λ (n : ℕ). items ++ rows_from_top width n bytes) (sym next)
    ∙ left

-- there is room for a row
pub row_fits : (items bytes row : List ℕ) (width height rows below room : ℕ) → rows ≡ suc below → row ≡ row_of width below bytes → items ++ rows_from_top width rows bytes ≡ ppm_of width height bytes → room ≡ length (ppm_head width height) + 3 * (width * height) → length items + length (colours_of row) ≤ room
unfolding ppm_of
row_fits items bytes row width height rows below room next is_row left same_room =
    let written = ap (λ (xs : List ℕ). length xs) (row_written items bytes row (ppm_head width height ++ rows_from_top width height bytes) width rows below next is_row left) in
    let all = length-append (items ++ colours_of row) (rows_from_top width below bytes) in
    let both = length-append items (colours_of row) in
    let whole = length-append (ppm_head width height) (rows_from_top width height bytes) in
    let few = length-rows_from_top width height bytes in
    omega arith

-- a row of cells behind what stands, and then the rows below it
pub cells_written : (items : List ℕ) (cells row : List Cell) (whole : List ℕ) (width rows below : ℕ) → rows ≡ suc below → row ≡ cells_of width below cells
    → items ++ cells_from_top width rows cells ≡ whole → (items ++ colours_in row) ++ cells_from_top width below cells ≡ whole
cells_written items cells row whole width rows below next is_row left =
    append_assoc items (colours_in row) (cells_from_top width below cells)
    ∙ ap (λ (cells_of_row : List Cell). items ++ (colours_in cells_of_row ++ cells_from_top width below cells)) is_row
    ∙ ap (λ (n : ℕ). items ++ cells_from_top width n cells) (sym next)
    ∙ left

-- three bytes a cell are left for the rows that are left
pub cells_fit : (items width rows below room : ℕ) → rows ≡ suc below → items + 3 * (width * rows) ≡ room → items + 3 * width + 3 * (width * below) ≡ room
cells_fit items width rows below room next left =
    let more = mul-suc width below in
    let same : width * rows ≡ width * suc below = ap (λ (n : ℕ). width * n) next in
    omega (arith, more, same, left)
