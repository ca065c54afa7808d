-- Indices, which name the elements of a draw; section 2.8. They are told of every type: one that there isn't has indices of no bytes, which are 0.
use Rattle.std.specs.Prelude.{ℕ, ◌+◌, ◌*◌, ◌==◌, if◌then◌else◌, List, map}
use Rattle.std.specs.List.{range_with_len}
use Rattle.gl_memory.specs.Number.{u16_at}
use Rattle.gl_memory.specs.Segment.{Segment, byte_at}

-- how many bytes an index of a type has: one of UNSIGNED_BYTE, two of UNSIGNED_SHORT; section 2.8
unfoldable pub index_bytes : ℕ → ℕ
index_bytes kind = if kind == 0x1401 then 1 else (if kind == 0x1403 then 2 else 0)

-- the index of a type at a place of memory, the lowest byte first; section 2.8
unfoldable pub index_at : List Segment → ℕ → ℕ → ℕ
index_at memory kind place = if kind == 0x1401 then byte_at memory place else (if kind == 0x1403 then u16_at memory place else 0)

-- the index with a number, from 0, of those of a type that lie from a place of memory on; section 2.8
unfoldable pub index_numbered : List Segment → ℕ → ℕ → ℕ → ℕ
index_numbered memory kind place number = index_at memory kind (place + number * index_bytes kind)

-- so many indices of a type that lie from a place of memory on; section 2.8
unfoldable pub indices_at : List Segment → ℕ → ℕ → ℕ → List ℕ
indices_at memory kind place count = map (index_numbered memory kind place) (range_with_len 0 count)
