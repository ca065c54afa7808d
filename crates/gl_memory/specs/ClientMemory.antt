-- Client memory as its bytes from the place 0 on, and what a write leaves; own. No copying stands here.
use Rattle.std.specs.Prelude.{ℕ, ◌+◌, if◌then◌else◌, nat_le, nat_lt, ◌&&◌, ◌-◌, List, [], ◌∷◌, length, map, slice_index}
use Rattle.std.specs.List.{range_with_len}
use Rattle.gl_memory.specs.Segment.{Segment}

-- client memory as one segment, from 0, of all its bytes; own
abbrev pub memory_of : List ℕ → List Segment
memory_of bytes = record { start = 0; bytes = bytes } ∷ []

-- the byte at a place after bytes are written over others from at on: the one written there, else the old one; own
unfoldable pub byte_written : List ℕ → ℕ → List ℕ → ℕ → ℕ
byte_written old at bytes place =
    if nat_le at place && nat_lt place (at + length bytes) then slice_index bytes (place - at) else slice_index old place

-- what bytes written over others from at on leave at each place there is; own
unfoldable pub written : List ℕ → ℕ → List ℕ → List ℕ
written old at bytes = map (byte_written old at bytes) (range_with_len 0 (length old))
