-- The matrices of Frustumx and Orthox.
use Rattle.std.specs.Prelude.{ℤ, pos, neg_ℤ, ◌+ℤ◌, ◌-ℤ◌, ◌*ℤ◌, [], ◌∷◌}
use Rattle.fixed_transform.specs.declared.matrix.Matrix.{Matrix}
use Rattle.fixed_transform.specs.Fixed.{clamp_i32, floor, quotient_of}
use Rattle.fixed_transform.specs.Matrix.{of_values}

-- the third number of a frustum's last column; OpenGL ES 1.1.12 section 2.10.2, the rounding own
unfoldable pub depth_of : ℤ → ℤ → ℤ
depth_of near far = clamp_i32 (floor (neg_ℤ (pos 2 *ℤ (far *ℤ near))) (far -ℤ near))

-- the matrix of Frustumx, by columns; OpenGL ES 1.1.12 section 2.10.2, the rounding own
unfoldable pub frustum_of : ℤ → ℤ → ℤ → ℤ → ℤ → ℤ → Matrix
frustum_of left right bottom top near far =
    of_values (
    quotient_of (pos 2 *ℤ near) (right -ℤ left) ∷ pos 0 ∷ pos 0 ∷ pos 0 ∷
    pos 0 ∷ quotient_of (pos 2 *ℤ near) (top -ℤ bottom) ∷ pos 0 ∷ pos 0 ∷
    quotient_of (right +ℤ left) (right -ℤ left) ∷ quotient_of (top +ℤ bottom) (top -ℤ bottom) ∷ quotient_of (neg_ℤ (far +ℤ near)) (far -ℤ near) ∷ neg_ℤ (pos 65536) ∷
    pos 0 ∷ pos 0 ∷ depth_of near far ∷ pos 0 ∷ [])

-- the matrix of Orthox, by columns; OpenGL ES 1.1.12 section 2.10.2, the rounding own
unfoldable pub ortho_of : ℤ → ℤ → ℤ → ℤ → ℤ → ℤ → Matrix
ortho_of left right bottom top near far =
    of_values (
    quotient_of (pos 131072) (right -ℤ left) ∷ pos 0 ∷ pos 0 ∷ pos 0 ∷
    pos 0 ∷ quotient_of (pos 131072) (top -ℤ bottom) ∷ pos 0 ∷ pos 0 ∷
    pos 0 ∷ pos 0 ∷ quotient_of (neg_ℤ (pos 131072)) (far -ℤ near) ∷ pos 0 ∷
    quotient_of (neg_ℤ (right +ℤ left)) (right -ℤ left) ∷ quotient_of (neg_ℤ (top +ℤ bottom)) (top -ℤ bottom) ∷ quotient_of (neg_ℤ (far +ℤ near)) (far -ℤ near) ∷ pos 65536 ∷ [])
