-- The stacks of matrices of a context, which of them is the current one, and a matrix in memory; section 2.10.2.
use Rattle.std.specs.Prelude.{ℕ, ◌+◌, ◌*◌, ◌==◌, ℤ, if◌then◌else◌, List, [], ◌∷◌, length}
use Rattle.gl_memory.specs.Number.{i32_at}
use Rattle.gl_memory.specs.Segment.{Segment}
use Rattle.fixed_transform.specs.declared.matrix.Matrix.{Matrix}
use Rattle.fixed_transform.specs.Matrix.{identity, with_entries}

-- the stacks of the model view, the projection, and the textures of units 0 and 1, each as the list of its matrices, the top one first; section 2.10.2
pub record StacksView : Type 0 where
  pub model_view : List Matrix
  pub projection : List Matrix
  pub texture_zero : List Matrix
  pub texture_one : List Matrix

-- the stacks at the start: each holds the identity; section 2.10.2
abbrev pub first_stacks : StacksView
first_stacks = record { model_view = identity ∷ []; projection = identity ∷ []; texture_zero = identity ∷ []; texture_one = identity ∷ [] }

-- the current stack: by the matrix mode that of the model view, the projection, or the texture of the active unit; section 2.10.2
abbrev pub current_of : StacksView → ℕ → ℕ → List Matrix
current_of stacks mode active =
    if mode == 0x1700 then stacks.model_view else (
    if mode == 0x1701 then stacks.projection else (
    if active == 0x84C0 then stacks.texture_zero else stacks.texture_one))

-- the stack of the textures of the unit at place 0 or 1; section 2.10.2
abbrev pub texture_of : StacksView → ℕ → List Matrix
texture_of stacks place = if place == 0 then stacks.texture_zero else stacks.texture_one

-- the stacks with another current one; section 2.10.2
abbrev pub with_current : StacksView → ℕ → ℕ → List Matrix → StacksView
with_current stacks mode active matrices =
    if mode == 0x1700 then record stacks { model_view = matrices } else (
    if mode == 0x1701 then record stacks { projection = matrices } else (
    if active == 0x84C0 then record stacks { texture_zero = matrices } else record stacks { texture_one = matrices }))

-- the most matrices of the current stack; own, of at least 16 and 2
abbrev pub most_of : ℕ → ℕ
most_of mode = if mode == 0x1700 then 16 else 2

-- how many matrices each stack holds, in the order of tracked state; own
abbrev pub depths_of : StacksView → List ℕ
depths_of stacks = length stacks.model_view ∷ length stacks.projection ∷ length stacks.texture_zero ∷ length stacks.texture_one ∷ []

-- the number in a row and a column of a matrix that lies by columns from a place of memory on, of four bytes each; section 2.10.2
abbrev pub entry_at : List Segment → ℕ → ℕ → ℕ → ℤ
entry_at memory place row column = i32_at memory (place + 4 * (4 * column + row))

-- the matrix that lies from a place of memory on; section 2.10.2
unfoldable pub matrix_at : List Segment → ℕ → Matrix
matrix_at memory place = with_entries (entry_at memory place)
