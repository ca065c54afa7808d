-- A matrix in memory is the same on two memories that have the same bytes where it lies.
use Rattle.std.proofs.Common.{◌≡◌, ℕ, ◌+◌, ◌*◌, ◌<◌, ◌≤◌, List, [], ◌∷◌, refl, ap, arith}
use Rattle.std.proofs.lemmas.List.Elements.{All-head}
use Rattle.std.specs.Int.{cast_signed, w32}
use Rattle.gl_memory.specs.Number.{u32_at, i32_at}
use Rattle.gl_memory.specs.Piece.{LiesIn, Agree}
use Rattle.gl_memory.specs.Segment.{Segment, byte_at}
use Rattle.gl_memory.specs.declared.piece.Piece.{Piece}
use Rattle.fixed_transform.proofs.Matrices.{cons_four}
use Rattle.fixed_transform.specs.Matrix.{of_values}
use Rattle.gl_tracked.specs.Ranges.{range_of_matrix}
use Rattle.gl_state.specs.Stacks.{entry_at, matrix_at}

module _ (m n : List Segment) (matrix : ℕ) (same : (place : ℕ) → LiesIn place (range_of_matrix matrix) → byte_at m place ≡ byte_at n place) where
  same_byte : (at : ℕ) → matrix ≤ at → at < matrix + 64 → byte_at m at ≡ byte_at n at
  unfolding range_of_matrix
  same_byte at from below = same at (record { from = from; below = below })

  four_bytes : (at : ℕ) → matrix ≤ at → at + 3 < matrix + 64 → u32_at m at ≡ u32_at n at
  unfolding u32_at
  four_bytes at from below =
      cc (
        same_byte at (omega arith) (omega arith),
        same_byte (at + 1) (omega arith) (omega arith),
        same_byte (at + 2) (omega arith) (omega arith),
        same_byte (at + 3) (omega arith) (omega arith),
      )

  entry_at-same : (row column : ℕ) → row < 4 → column < 4 → entry_at m matrix row column ≡ entry_at n matrix row column
  unfolding i32_at
  entry_at-same row column few_rows few_columns = ap (cast_signed w32) (four_bytes (matrix + 4 * (4 * column + row)) (omega arith) (omega arith))

  matrix_at-same : matrix_at m matrix ≡ matrix_at n matrix
  unfolding matrix_at
  matrix_at-same =
      ap of_values (
      cons_four
      (entry_at-same 0 0 (omega arith) (omega arith))
      (entry_at-same 1 0 (omega arith) (omega arith))
      (entry_at-same 2 0 (omega arith) (omega arith))
      (entry_at-same 3 0 (omega arith) (omega arith))
      (
      cons_four
      (entry_at-same 0 1 (omega arith) (omega arith))
      (entry_at-same 1 1 (omega arith) (omega arith))
      (entry_at-same 2 1 (omega arith) (omega arith))
      (entry_at-same 3 1 (omega arith) (omega arith))
      (
      cons_four
      (entry_at-same 0 2 (omega arith) (omega arith))
      (entry_at-same 1 2 (omega arith) (omega arith))
      (entry_at-same 2 2 (omega arith) (omega arith))
      (entry_at-same 3 2 (omega arith) (omega arith))
      (
      cons_four
      (entry_at-same 0 3 (omega arith) (omega arith))
      (entry_at-same 1 3 (omega arith) (omega arith))
      (entry_at-same 2 3 (omega arith) (omega arith))
      (entry_at-same 3 3 (omega arith) (omega arith))
      refl))))

-- a matrix is the same on memories that agree where it lies; section 2.10.2
pub matrix_at-agree : (m n : List Segment) (matrix : ℕ) → Agree m n (range_of_matrix matrix ∷ []) → matrix_at m matrix ≡ matrix_at n matrix
matrix_at-agree m n matrix agree =
    matrix_at-same m n matrix (All-head (λ (range : Piece). (place : ℕ) → LiesIn place range → byte_at m place ≡ byte_at n place) (range_of_matrix matrix) [] agree)
