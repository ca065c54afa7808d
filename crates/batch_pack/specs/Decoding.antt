-- The calls and segments that slots spell, read from the front; own. Only where slots are spellings does this say anything.
use Rattle.std.specs.Prelude.{ℕ, zero, suc, ◌-◌, ◌/◌, ◌%◌, ◌^◌, List, [], ◌∷◌, drop, length, slice_index, Option, Some, None, unwrap_or}
use Rattle.std.specs.Option.{option_map}
use Rattle.gl_words.specs.CallOf.{argument_count}
use Rattle.gl_words.specs.Slots.{call_begun}
use Rattle.gl_words.specs.declared.call.Call.{Call}
use Rattle.gl_memory.specs.Segment.{Segment}
use Rattle.gl_memory.specs.Slots.{lent}
use Rattle.batch_pack.specs.Spelling.{Spelled, segment_slots}

-- the number of the call that a header says; own
unfoldable pub id_said : ℕ → ℕ
id_said header = header % 2 ^ 16

-- how many slots a header says there are, with itself; own
unfoldable pub slots_said : ℕ → ℕ
slots_said header = header / 2 ^ 16 % 2 ^ 32

-- how many segments a header says there are; own
unfoldable pub segments_said : ℕ → ℕ
segments_said header = header / 2 ^ 48

-- how many arguments the call has whose number a header says; own
unfoldable pub arguments_said : ℕ → ℕ
arguments_said header = unwrap_or (argument_count (id_said header)) 0

-- the call whose spelling begins with this header and goes on with these slots; own
unfoldable pub call_at : ℕ → List ℕ → Option Call
call_at header slots = call_begun (id_said header) slots

-- the segment that slots begin with: its start, its length, and its bytes; own
unfoldable pub segment_at : List ℕ → Segment
segment_at slots = record { start = slice_index slots 0; bytes = lent (drop 2 slots) 0 (slice_index slots 1) }

-- so many segments that slots begin with, one after another; own
unfoldable pub segments_at : ℕ → List ℕ → List Segment
segments_at zero slots = []
segments_at (suc n) slots = segment_at slots ∷ segments_at n (drop (segment_slots (segment_at slots)) slots)

-- the call and the segments whose spelling begins with this header and goes on with these slots; own
unfoldable pub spelled_at : ℕ → List ℕ → Option Spelled
spelled_at header slots =
    option_map (λ call. record { call = call; segments = segments_at (segments_said header) (drop (arguments_said header) slots) }) (call_at header slots)

-- a call where there is one, and the calls after it; own
abbrev pub followed_by : Option Spelled → List Spelled → List Spelled
followed_by None calls = []
followed_by (Some call) calls = call ∷ calls

-- at most so many calls, read from the front of slots; own
unfoldable pub calls_read : ℕ → List ℕ → List Spelled
calls_read zero slots = []
calls_read (suc n) [] = []
calls_read (suc n) (header ∷ slots) = followed_by (spelled_at header slots) (calls_read n (drop (slots_said header - 1) slots))

-- the calls that slots spell; own
unfoldable pub calls_in : List ℕ → List Spelled
calls_in slots = calls_read (length slots) slots
