-- A stack of matrices as the list of them, the top one first.
use Rattle.std.specs.Prelude.{ℕ, zero, suc, List, [], ◌∷◌, slice_index_or}
use Rattle.fixed_transform.specs.declared.matrix.Matrix.{Matrix}
use Rattle.fixed_transform.specs.Matrix.{identity}

-- the first so many matrices of a list, the last of them first; own
abbrev pub stacked : List Matrix → ℕ → List Matrix
stacked matrices zero = []
stacked matrices (suc k) = slice_index_or matrices k identity ∷ stacked matrices k

-- the top matrix, which is the current one; OpenGL ES 1.1.12 section 2.10.2
abbrev pub top_of : List Matrix → Matrix
top_of [] = identity
top_of (m ∷ ms) = m

-- the matrices below the top one; OpenGL ES 1.1.12 section 2.10.2
abbrev pub below_top : List Matrix → List Matrix
below_top [] = []
below_top (m ∷ ms) = ms
