-- Where an element of an array lies; section 2.8. It is told of every state, also of one that no call sets: a size below zero has no numbers, and a type that there isn't has numbers of no bytes.
use Rattle.std.specs.Prelude.{ℕ, zero, suc, ◌+◌, ◌*◌, ◌==◌, ℤ, pos, negsuc, if◌then◌else◌, List, ◌∷◌}
use Rattle.gl_memory.specs.declared.piece.Piece.{Piece}
use Rattle.gl_tracked.specs.declared.tracked.ArrayState.{ArrayState}
use Rattle.gl_tracked.specs.declared.tracked.Tracked.{Tracked}

-- how many bytes a number of a type has: one of BYTE and UNSIGNED_BYTE, two of SHORT, four of FIXED; table 2.4
unfoldable pub number_bytes : ℕ → ℕ
number_bytes kind =
    if kind == 0x1400 then 1 else (
    if kind == 0x1401 then 1 else (
    if kind == 0x1402 then 2 else (
    if kind == 0x140C then 4 else 0)))

-- how many numbers an element has, by the size of its array; section 2.8
abbrev pub number_count : ℤ → ℕ
number_count (pos size) = size
number_count (negsuc below) = 0

-- how many bytes an element has; section 2.8
unfoldable pub element_bytes : ArrayState → ℕ
element_bytes array = number_count array.size * number_bytes array.kind

-- from one element to the next, in bytes: the stride, or where it isn't above zero the bytes of an element; section 2.8
abbrev pub step_over : ℤ → ℕ → ℕ
step_over (pos zero) bytes = bytes
step_over (pos (suc less)) bytes = suc less
step_over (negsuc below) bytes = bytes

-- the piece of memory in which the element at a place of an array lies, counted from 0; section 2.8
unfoldable pub element_at : ArrayState → ℕ → Piece
element_at array place = record { start = array.pointer + place * step_over array.stride (element_bytes array); len = element_bytes array }

-- the arrays as a draw reads them, in its order: vertices, normals of three numbers whatever size is kept of them, colours, texture coordinates of unit 0 and of unit 1; section 2.8
unfoldable pub arrays_in_order : Tracked → List ArrayState
arrays_in_order tracked = tracked.vertex ∷ (record tracked.normal { size = pos 3 }) ∷ tracked.colour ∷ tracked.texture
