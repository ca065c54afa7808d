-- The matrices of Rotatex.
use Rattle.std.specs.Prelude.{ℕ, zero, suc, ℤ, pos, ◌+ℤ◌, ◌-ℤ◌, ◌*ℤ◌, [], ◌∷◌}
use Rattle.fixed_transform.specs.declared.matrix.Matrix.{Matrix}
use Rattle.fixed_transform.specs.Fixed.{floor}
use Rattle.fixed_transform.specs.Matrix.{identity, of_values}
use Rattle.fixed_transform.specs.Angle.{angle_of, cosine, sine}
use Rattle.fixed_transform.specs.Axis.{length_of, unit_part}

-- the product of two 16.16 fixed numbers, rounded down; own
unfoldable pub scaled : ℤ → ℤ → ℤ
scaled u v = floor (u *ℤ v) (pos 65536)

-- u * u * (1 - cosine) + cosine, each product rounded down; OpenGL ES 1.1.12 section 2.10.2
unfoldable pub diagonal_entry : ℤ → ℤ → ℤ
diagonal_entry u cosine = scaled (scaled u u) (pos 65536 -ℤ cosine) +ℤ cosine

-- u * v * (1 - cosine) + w * sine, each product rounded down; OpenGL ES 1.1.12 section 2.10.2
unfoldable pub sum_entry : ℤ → ℤ → ℤ → ℤ → ℤ → ℤ
sum_entry u v w sine cosine = scaled (scaled u v) (pos 65536 -ℤ cosine) +ℤ scaled w sine

-- u * v * (1 - cosine) - w * sine, each product rounded down; OpenGL ES 1.1.12 section 2.10.2
unfoldable pub difference_entry : ℤ → ℤ → ℤ → ℤ → ℤ → ℤ
difference_entry u v w sine cosine = scaled (scaled u v) (pos 65536 -ℤ cosine) -ℤ scaled w sine

-- the turn with sine s and cosine c about the axis of length 1 with the parts a, b, e, by columns; OpenGL ES 1.1.12 section 2.10.2
unfoldable pub turn_about : ℤ → ℤ → ℤ → ℤ → ℤ → Matrix
turn_about a b e s c =
    of_values (
    diagonal_entry a c ∷ sum_entry b a e s c ∷ difference_entry a e b s c ∷ pos 0 ∷
    difference_entry a b e s c ∷ diagonal_entry b c ∷ sum_entry b e a s c ∷ pos 0 ∷
    sum_entry a e b s c ∷ difference_entry b e a s c ∷ diagonal_entry e c ∷ pos 0 ∷
    pos 0 ∷ pos 0 ∷ pos 0 ∷ pos 65536 ∷ [])

-- the turn by an angle about an axis of this length: the identity where the length is zero; own
abbrev pub turn_of : ℕ → ℤ → ℤ → ℤ → ℤ → Matrix
turn_of zero angle x y z = identity
turn_of (suc n) angle x y z =
    turn_about (unit_part x (suc n)) (unit_part y (suc n)) (unit_part z (suc n)) (sine (angle_of angle)) (cosine (angle_of angle))

-- the matrix of Rotatex; OpenGL ES 1.1.12 section 2.10.2, the rounding own
unfoldable pub rotation_of : ℤ → ℤ → ℤ → ℤ → Matrix
rotation_of angle x y z = turn_of (length_of x y z) angle x y z
