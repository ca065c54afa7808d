-- Matrices of four rows and four columns of 16.16 fixed numbers, and their products.
use Rattle.std.specs.Prelude.{ℕ, ◌+◌, ◌*◌, ℤ, pos, ◌+ℤ◌, ◌*ℤ◌, List, [], ◌∷◌, slice_index_or}
use Rattle.fixed_transform.specs.declared.matrix.Matrix.{Matrix}
use Rattle.fixed_transform.specs.Fixed.{fx}

-- the matrix of 16 numbers, by columns; OpenGL ES 1.1.12 section 2.10.2
abbrev pub of_values : List ℤ → Matrix
of_values values = record { values = values }

-- the number at a place of a matrix, by columns; OpenGL ES 1.1.12 section 2.10.2
abbrev pub value_at : Matrix → ℕ → ℤ
value_at m at = slice_index_or m.values at (pos 0)

-- the number of a matrix in a row and a column, both from 0; OpenGL ES 1.1.12 section 2.10.2
abbrev pub entry : Matrix → ℕ → ℕ → ℤ
entry m row column = value_at m (4 * column + row)

-- the four numbers of a column
abbrev pub column_of : Matrix → ℕ → List ℤ
column_of m column = entry m 0 column ∷ entry m 1 column ∷ entry m 2 column ∷ entry m 3 column ∷ []

-- the four numbers of a column, each multiplied by a number
abbrev pub column_by : Matrix → ℕ → ℤ → List ℤ
column_by m column by = fx (entry m 0 column *ℤ by) ∷ fx (entry m 1 column *ℤ by) ∷ fx (entry m 2 column *ℤ by) ∷ fx (entry m 3 column *ℤ by) ∷ []

-- the matrix with these numbers in its rows and columns
abbrev pub with_entries : (ℕ → ℕ → ℤ) → Matrix
with_entries f =
    of_values (
    f 0 0 ∷ f 1 0 ∷ f 2 0 ∷ f 3 0 ∷
    f 0 1 ∷ f 1 1 ∷ f 2 1 ∷ f 3 1 ∷
    f 0 2 ∷ f 1 2 ∷ f 2 2 ∷ f 3 2 ∷
    f 0 3 ∷ f 1 3 ∷ f 2 3 ∷ f 3 3 ∷ [])

-- the part at place k of a column of four numbers
abbrev pub part : List ℤ → ℕ → ℤ
part v k = slice_index_or v k (pos 0)

-- the part in a row of the product of a matrix and a column; OpenGL ES 1.1.12 section 2.10.2, the rounding own
unfoldable pub image_part : Matrix → List ℤ → ℕ → ℤ
image_part m v row =
    fx (entry m row 0 *ℤ part v 0 +ℤ entry m row 1 *ℤ part v 1 +ℤ entry m row 2 *ℤ part v 2 +ℤ entry m row 3 *ℤ part v 3)

-- the product of a matrix and a column; OpenGL ES 1.1.12 section 2.10.2
unfoldable pub image : Matrix → List ℤ → List ℤ
image m v = image_part m v 0 ∷ image_part m v 1 ∷ image_part m v 2 ∷ image_part m v 3 ∷ []

-- the number in a row and a column of the product of two matrices; OpenGL ES 1.1.12 section 2.10.2, the rounding own
unfoldable pub product_entry : Matrix → Matrix → ℕ → ℕ → ℤ
product_entry a b row column =
    fx (entry a row 0 *ℤ entry b 0 column +ℤ entry a row 1 *ℤ entry b 1 column +ℤ entry a row 2 *ℤ entry b 2 column +ℤ entry a row 3 *ℤ entry b 3 column)

-- the product of two matrices; OpenGL ES 1.1.12 section 2.10.2
unfoldable pub product : Matrix → Matrix → Matrix
product a b = with_entries (product_entry a b)

-- 1 on the diagonal and 0 elsewhere; OpenGL ES 1.1.12 section 2.10.2
unfoldable pub identity : Matrix
identity =
    of_values (
    pos 65536 ∷ pos 0 ∷ pos 0 ∷ pos 0 ∷
    pos 0 ∷ pos 65536 ∷ pos 0 ∷ pos 0 ∷
    pos 0 ∷ pos 0 ∷ pos 65536 ∷ pos 0 ∷
    pos 0 ∷ pos 0 ∷ pos 0 ∷ pos 65536 ∷ [])

-- the identity with x, y, z in the last column; OpenGL ES 1.1.12 section 2.10.2
unfoldable pub translation_of : ℤ → ℤ → ℤ → Matrix
translation_of x y z =
    of_values (
    pos 65536 ∷ pos 0 ∷ pos 0 ∷ pos 0 ∷
    pos 0 ∷ pos 65536 ∷ pos 0 ∷ pos 0 ∷
    pos 0 ∷ pos 0 ∷ pos 65536 ∷ pos 0 ∷
    x ∷ y ∷ z ∷ pos 65536 ∷ [])

-- x, y, z and 1 on the diagonal, and 0 elsewhere; OpenGL ES 1.1.12 section 2.10.2
unfoldable pub scaling_of : ℤ → ℤ → ℤ → Matrix
scaling_of x y z =
    of_values (
    x ∷ pos 0 ∷ pos 0 ∷ pos 0 ∷
    pos 0 ∷ y ∷ pos 0 ∷ pos 0 ∷
    pos 0 ∷ pos 0 ∷ z ∷ pos 0 ∷
    pos 0 ∷ pos 0 ∷ pos 0 ∷ pos 65536 ∷ [])
