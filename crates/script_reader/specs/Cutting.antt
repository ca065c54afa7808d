-- How a source is cut into lines, and a line into words. What they say is judged in `Judged.antt`.
use Rattle.std.specs.Prelude.{ℕ, Bool, false, true, List, [], ◌∷◌, ◌-◌, Option, Some, None, length, take, filter, ◌==◌, ◌||◌, if◌then◌else◌, slice_get}
use Rattle.std.specs.List.{onto_first, slice_split}

-- the lines, each with its line end; the last may lack one. A line ends with LF; own
unfoldable pub lines_of : List ℕ → List (List ℕ)
lines_of [] = []
lines_of (byte ∷ bytes) = if byte == 10 then (byte ∷ []) ∷ lines_of bytes else onto_first byte (lines_of bytes)

-- this byte, if it is there
abbrev pub is_byte : ℕ → Option ℕ → Bool
is_byte byte None = false
is_byte byte (Some other) = other == byte

-- the last byte is this one
abbrev pub ends_with : ℕ → List ℕ → Bool
ends_with byte bytes = is_byte byte (slice_get bytes (length bytes - 1))

-- the bytes without this one at their end
abbrev pub without_end : ℕ → List ℕ → List ℕ
without_end byte bytes = if ends_with byte bytes then take (length bytes - 1) bytes else bytes

-- a line without its line end: LF, and one CR before it; own
abbrev pub text_of : List ℕ → List ℕ
text_of line = if ends_with 10 line then without_end 13 (without_end 10 line) else line

-- a space or a tab
abbrev pub is_blank : ℕ → Bool
is_blank byte = byte == 32 || byte == 9

-- not empty
abbrev pub is_word : List ℕ → Bool
is_word [] = false
is_word (byte ∷ bytes) = true

-- the words: what stands between blanks and isn't empty; own
unfoldable pub words_of : List ℕ → List (List ℕ)
words_of text = filter is_word (slice_split is_blank text)
