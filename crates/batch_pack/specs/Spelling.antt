-- The spelling of a call and the memory captured for it, in slots of eight bytes; own. No batch and no reader stands here.
use Rattle.std.specs.Prelude.{◌≡◌, ℕ, ◌+◌, ◌*◌, ◌/◌, ◌^◌, ◌<◌, ◌≤◌, List, [], ◌∷◌, ◌++◌, length, map, take, drop, sum}
use Rattle.std.specs.Int.{from_le_bytes, w64}
use Rattle.std.specs.List.{flat_map, range_with_len, AllByRecursion}
use Rattle.gl_words.specs.Call.{id_of, arguments, IsInRange}
use Rattle.gl_words.specs.Slots.{slot_of}
use Rattle.gl_words.specs.declared.call.Call.{Call}
use Rattle.gl_memory.specs.Segment.{Segment}

-- a call, and the segments of memory that were captured for it; own
pub record Spelled : Type 0 where
  pub call : Call
  pub segments : List Segment

-- how many slots so many bytes take, eight to a slot; own
unfoldable pub slots_for : ℕ → ℕ
slots_for bytes = (bytes + 7) / 8

-- the slot of the bytes from a place on: the first in the lowest eight bits, and zeros where there are no eight; own
unfoldable pub slot_at : List ℕ → ℕ → ℕ
slot_at bytes place = from_le_bytes w64 (take 8 (drop place bytes))

-- bytes in slots, eight to a slot; own
unfoldable pub slots_of_bytes : List ℕ → List ℕ
slots_of_bytes bytes = map (λ number. slot_at bytes (8 * number)) (range_with_len 0 (slots_for (length bytes)))

-- how many slots a segment takes: its start, its length, and its bytes; own
unfoldable pub segment_slots : Segment → ℕ
segment_slots segment = 2 + slots_for (length segment.bytes)

-- a segment in slots: its start, its length, and its bytes; own
unfoldable pub segment_spelling : Segment → List ℕ
segment_spelling segment = segment.start ∷ length segment.bytes ∷ slots_of_bytes segment.bytes

-- how many slots a spelling has: a header, one for each argument, and those of the segments; own
unfoldable pub slots_of : Spelled → ℕ
slots_of spelled = 1 + length (arguments spelled.call) + sum (map segment_slots spelled.segments)

-- the header: the call's number in the lowest 16 bits, the count of slots in the next 32, that of segments in the last 16; own
unfoldable pub header_of : Spelled → ℕ
header_of spelled = id_of spelled.call + 2 ^ 16 * slots_of spelled + 2 ^ 48 * length spelled.segments

-- the spelling of a call and its segments: the header, the arguments in order, the segments in order; own
unfoldable pub spelling_of : Spelled → List ℕ
spelling_of spelled = header_of spelled ∷ map slot_of (arguments spelled.call) ++ flat_map segment_spelling spelled.segments

-- a segment that may be spelled: it has a byte at least, and ends at or below 2^62; own
pub record IsSegment (segment : Segment) : Type 0 where
  pub some : 1 ≤ length segment.bytes
  pub end : segment.start + length segment.bytes ≤ 2 ^ 62
  pub bytes : AllByRecursion (λ byte. byte < 256) segment.bytes

-- a call that has a spelling: its arguments are in the ranges of their kinds, its segments are at most 8 that may be spelled, and its slots fewer than 2^32; own
pub record HasSpelling (spelled : Spelled) : Type 0 where
  pub in_range : IsInRange spelled.call
  pub few : length spelled.segments ≤ 8
  pub segments : AllByRecursion IsSegment spelled.segments
  pub short : slots_of spelled < 2 ^ 32

-- the spellings of calls, one after another; own
unfoldable pub spellings_of : List Spelled → List ℕ
spellings_of calls = flat_map spelling_of calls

-- every call has a spelling; own
abbrev pub HaveSpellings : List Spelled → Type 0
HaveSpellings calls = AllByRecursion HasSpelling calls

-- slots are the spellings of some calls; own
abbrev pub AreSpellings : List ℕ → Type 0
AreSpellings slots = (calls : List Spelled) × HaveSpellings calls × (slots ≡ spellings_of calls)

-- of two spellings neither begins the other, and equal ones are of the same call and segments; own
pub record IsTheOnlySpelling (one other : List ℕ) (call other_call : Spelled) : Type 0 where
  pub no_longer : (more : List ℕ) → one ≡ other ++ more → more ≡ []
  pub no_shorter : (more : List ℕ) → other ≡ one ++ more → more ≡ []
  pub same_call : one ≡ other → call ≡ other_call

-- what holds of any two lists of slots that are spellings; own
abbrev pub SpellingLaw : List ℕ → List ℕ → Type 0
SpellingLaw one other = (call other_call : Spelled) → HasSpelling call → HasSpelling other_call
    → one ≡ spelling_of call → other ≡ spelling_of other_call → IsTheOnlySpelling one other call other_call
