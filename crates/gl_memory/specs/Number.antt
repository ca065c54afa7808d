-- Numbers of several bytes in memory, the lowest byte first; own.
use Rattle.std.specs.Prelude.{ℕ, ◌+◌, ◌*◌, ◌^◌, ℤ, List}
use Rattle.std.specs.Int.{cast_signed, w32}
use Rattle.gl_memory.specs.Segment.{Segment, byte_at}

-- the number of two bytes from a place on; own
unfoldable pub u16_at : List Segment → ℕ → ℕ
u16_at memory place = byte_at memory place + 256 * byte_at memory (place + 1)

-- the number of four bytes from a place on; own
unfoldable pub u32_at : List Segment → ℕ → ℕ
u32_at memory place =
    byte_at memory place + 256 * byte_at memory (place + 1)
    + 256 ^ 2 * byte_at memory (place + 2) + 256 ^ 3 * byte_at memory (place + 3)

-- the integer of four bytes from a place on, in two's complement of 32 bits; own
unfoldable pub i32_at : List Segment → ℕ → ℤ
i32_at memory place = cast_signed w32 (u32_at memory place)
