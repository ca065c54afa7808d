-- The numbers of an element of an array, as fixed numbers; sections 2.7 and 2.8. They are told of every state: of a type that there isn't no byte is read.
-- Arrays lie in memories, one for each number of a buffer: for 0, which is that of no buffer, in client memory; section 2.9.
use Rattle.std.specs.Prelude.{ℕ, ◌+◌, ◌*◌, ◌==◌, nat_lt, ℤ, pos, ◌*ℤ◌, if◌then◌else◌, List, ◌∷◌, []}
use Rattle.std.specs.Int.{cast_signed, int_div_euclid, w8, w16}
use Rattle.gl_memory.specs.Segment.{Segment, byte_at}
use Rattle.gl_memory.specs.Number.{u16_at, i32_at}
use Rattle.gl_tracked.specs.declared.tracked.ArrayState.{ArrayState}
use Rattle.gl_tracked.specs.Element.{element_at, number_bytes, number_count}

-- the integer of a type at a place of memory: BYTE and SHORT in two's complement, UNSIGNED_BYTE, and FIXED as its 32 bits; table 2.4
unfoldable pub integer_at : ℕ → List Segment → ℕ → ℤ
integer_at kind memory place =
    if kind == 0x1400 then cast_signed w8 (byte_at memory place) else (
    if kind == 0x1401 then pos (byte_at memory place) else (
    if kind == 0x1402 then cast_signed w16 (u16_at memory place) else (
    if kind == 0x140C then i32_at memory place else pos 0)))

-- an integer of a type as a fixed number: FIXED is one, UNSIGNED_BYTE, which only colours have, is a share of 255, and BYTE and SHORT are whole numbers; sections 2.7 and 2.8, the rounding own
unfoldable pub fixed_of : ℕ → ℤ → ℤ
fixed_of kind integer =
    if kind == 0x140C then integer else (
    if kind == 0x1401 then int_div_euclid (integer *ℤ pos 65536) (pos 255) else integer *ℤ pos 65536)

-- the part that an element hasn't: 0, and 1 in the fourth place; section 2.7
abbrev pub missing : ℕ → ℤ
missing part = if part == 3 then pos 65536 else pos 0

-- a part of the element at a place of an array, counted from 0: its number in the memory of its buffer, or what stands for a missing one; sections 2.7, 2.8 and 2.9
unfoldable pub element_part : ArrayState → (ℕ → List Segment) → ℕ → ℕ → ℤ
element_part array memories place part =
    if nat_lt part (number_count array.size)
    then fixed_of array.kind (integer_at array.kind (memories array.buffer) ((element_at array place).start + part * number_bytes array.kind))
    else missing part

-- the four parts of the element at a place of an array; sections 2.7 and 2.8
unfoldable pub element_parts : ArrayState → (ℕ → List Segment) → ℕ → List ℤ
element_parts array memories place =
    element_part array memories place 0 ∷ element_part array memories place 1 ∷ element_part array memories place 2 ∷ element_part array memories place 3 ∷ []

-- the four parts that a vertex takes of an array: those of its element where the array is enabled, else the current value; section 2.8
unfoldable pub given_or : ArrayState → List ℤ → (ℕ → List Segment) → ℕ → List ℤ
given_or array current memories place = if array.enabled then element_parts array memories place else current

-- memories by the numbers of buffers, of this client memory and of these buffers; section 2.9
abbrev pub memories_with : List Segment → (ℕ → List Segment) → ℕ → List Segment
memories_with client buffers buffer = if buffer == 0 then client else buffers buffer
