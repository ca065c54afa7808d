-- Memory as a list of segments, and its bytes; own. How a byte is looked for stands nowhere here.
use Rattle.std.specs.Prelude.{ℕ, ◌<◌, ◌-◌, if◌then◌else◌, nat_le, List, [], ◌∷◌, Option, None, slice_get, unwrap_or, All}

-- bytes of memory from a place on; own
pub record Segment : Type 0 where
  pub start : ℕ
  pub bytes : List ℕ

-- the byte of a segment at a place, where the segment holds the place; own
unfoldable pub byte_in : Segment → ℕ → Option ℕ
byte_in segment place = if nat_le segment.start place then slice_get segment.bytes (place - segment.start) else None

-- the byte at a place of the first segment which holds it, and 0 where none does; own
unfoldable pub byte_at : List Segment → ℕ → ℕ
byte_at [] place = 0
byte_at (segment ∷ segments) place = unwrap_or (byte_in segment place) (byte_at segments place)

-- every byte of every segment is below 256; own
abbrev pub AreBytes : List Segment → Type 0
AreBytes segments = All (λ segment. All (λ byte. byte < 256) segment.bytes) segments
