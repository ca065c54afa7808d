-- Which vertices of a draw make which triangle; section 2.6.1. A vertex is told by its place among those drawn.
use Rattle.std.specs.Prelude.{ℕ, ◌+◌, ◌-◌, ◌*◌, ◌/◌, ◌%◌, ◌==◌, if◌then◌else◌}
use Rattle.vertex_stage.specs.declared.triangles.Triple.{Triple}

-- how many triangles so many vertices make in a mode: TRIANGLES one of each three, TRIANGLE_STRIP and TRIANGLE_FAN one of each behind the first two, other modes none; section 2.6.1
unfoldable pub triangle_count : ℕ → ℕ → ℕ
triangle_count mode count =
    if mode == 4 then count / 3 else (
    if mode == 5 then count - 2 else (
    if mode == 6 then count - 2 else 0))

-- three vertices by their places
abbrev pub triple : ℕ → ℕ → ℕ → Triple
triple first second third = record { first = first; second = second; third = third }

-- the triangle at a place of a strip: in every other one the first two vertices are exchanged; section 2.6.1
abbrev pub strip_triangle : ℕ → Triple
strip_triangle number = if number % 2 == 0 then triple number (number + 1) (number + 2) else triple (number + 1) number (number + 2)

-- the triangle with a number, from 0, of those that a mode makes; section 2.6.1
unfoldable pub triangle_at : ℕ → ℕ → Triple
triangle_at mode number =
    if mode == 5 then strip_triangle number else (
    if mode == 6 then triple 0 (number + 1) (number + 2) else triple (3 * number) (3 * number + 1) (3 * number + 2))
