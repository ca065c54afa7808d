-- Where a reply is written in client memory; sections 2.9, 3.7.11, 4.3.1 and 6.1, the form of what a driver may reply beside that own. No driver stands here.
use Rattle.std.specs.Prelude.{ℕ, zero, suc, ◌+◌, ◌*◌, ◌/◌, ◌%◌, ◌^◌, ℤ, pos, negsuc, List, [], ◌∷◌, take, drop, Option, Some, None}
use Rattle.std.specs.List.{flat_map}
use Rattle.gl_words.specs.declared.call.Call.{Call}
use Rattle.gl_words.specs.declared.call.Call.TheVariants.{GenBuffers, GenTextures, GetFixedv, GetIntegerv, GetPointerv, ReadPixels}
use Rattle.gl_words.specs.Making.{low_bits}
use Rattle.gl_memory.specs.ClientMemory.{written}
use Rattle.gl_tracked.specs.declared.tracked.Tracked.{Tracked}
use Rattle.driver_trait.specs.Reply.{Replied, Nothing, Numbers, Bytes}

-- the low 32 bits of a number as four bytes, the lowest first; own
unfoldable pub number_bytes : ℤ → List ℕ
number_bytes number =
    low_bits number % 256 ∷ low_bits number / 2 ^ 8 % 256 ∷ low_bits number / 2 ^ 16 % 256 ∷ low_bits number / 2 ^ 24 ∷ []

-- the place at which a call's numbers are written, if they are; sections 2.9, 3.7.11 and 6.1.1
abbrev pub numbers_place : Call → Option ℕ
numbers_place (GenBuffers n names) = Some names
numbers_place (GenTextures n names) = Some names
numbers_place (GetFixedv pname params) = Some params
numbers_place (GetIntegerv pname params) = Some params
numbers_place (GetPointerv pname params) = Some params
numbers_place _ = None

-- client memory after numbers were written one behind another, where there is a place; sections 2.9, 3.7.11 and 6.1.1
abbrev pub numbers_written : Option ℕ → List ℤ → List ℕ → List ℕ
numbers_written None numbers memory = memory
numbers_written (Some place) numbers memory = written memory place (flat_map number_bytes numbers)

-- from one row of pixels to the next in memory: the bytes of a row, rounded up to a multiple of the alignment; section 3.6.1
unfoldable pub pitch_of : ℕ → ℤ → ℕ
pitch_of row (pos zero) = row
pitch_of row (pos (suc less)) = (row + less) / suc less * suc less
pitch_of row (negsuc below) = row

-- client memory after so many rows of bytes were written, each of this length and at this distance from the one before, as far as the bytes last; section 4.3.1
unfoldable pub rows_written : ℕ → ℕ → ℕ → ℕ → List ℕ → List ℕ → List ℕ
rows_written zero place row pitch bytes memory = memory
rows_written (suc others) place row pitch bytes memory =
    rows_written others (place + pitch) row pitch (drop row bytes) (written memory place (take row bytes))

-- client memory after bytes were written for a rectangle of pixels, of four bytes each, if both its sides are above zero; section 4.3.1
abbrev pub pixels_written : ℤ → ℤ → ℕ → ℤ → List ℕ → List ℕ → List ℕ
pixels_written (pos (suc width)) (pos height) place alignment bytes memory =
    rows_written height place (4 * suc width) (pitch_of (4 * suc width) alignment) bytes memory
pixels_written width height place alignment bytes memory = memory

-- client memory after bytes were written: only ReadPixels has some; section 4.3.1
abbrev pub bytes_written : Tracked → Call → List ℕ → List ℕ → List ℕ
bytes_written tracked (ReadPixels x y width height format kind pixels) bytes memory = pixels_written width height pixels tracked.pack_alignment bytes memory
bytes_written tracked _ bytes memory = memory

-- client memory after a call's reply was written; sections 2.9, 3.7.11, 4.3.1 and 6.1
unfoldable pub memory_after : Tracked → Call → Replied → List ℕ → List ℕ
memory_after tracked call Nothing memory = memory
memory_after tracked call (Numbers numbers) memory = numbers_written (numbers_place call) numbers memory
memory_after tracked call (Bytes bytes) memory = bytes_written tracked call bytes memory
