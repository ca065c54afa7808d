-- The bytes of buffers (section 2.9), and why a part of them can't be replaced. Nothing of copying stands here.
use Rattle.std.specs.Prelude.{ℕ, ◌+◌, if◌then◌else◌, nat_lt, List, [], ◌++◌, length, take, drop, is_some, Option, Some, None}
use Rattle.std.specs.Option.{unwrap_or}
use Rattle.gl_words.specs.declared.error.GlError.{GlError}
use Rattle.gl_words.specs.declared.error.GlError.TheVariants.{InvalidValue, InvalidOperation}
use Rattle.gl_objects.specs.declared.named.Named.{Named}
use Rattle.gl_objects.specs.Table.{named, object_of, object_in, size_at}

-- the bytes of the buffer that is meant, and none where there is none (section 2.9)
abbrev pub store_of : Option (Named (List ℕ)) → List ℕ
store_of what = unwrap_or (object_of what) []

-- the bytes of the buffer of a name, and none where there is none (section 2.9)
abbrev pub store_in : List (ℕ × Named (List ℕ)) → ℕ → List ℕ
store_in buffers name = store_of (named buffers name)

-- a store after bytes were written over others, from a place on: the bytes before it, those written, and those behind them
-- (section 2.9)
unfoldable pub part_written : List ℕ → ℕ → List ℕ → List ℕ
part_written store offset bytes = take offset store ++ (bytes ++ drop (length bytes) (drop offset store))

-- why so many bytes can't be written over a part of a store: the name is that of no buffer, or the part's end lies past
-- the store (section 2.9)
abbrev pub part_fault : List (ℕ × Named (List ℕ)) → ℕ → ℕ → ℕ → Option GlError
part_fault buffers name offset count =
    if is_some (object_in buffers name) then (if nat_lt (size_at length buffers name) (offset + count) then Some InvalidValue else None) else Some InvalidOperation
