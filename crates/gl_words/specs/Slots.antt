-- An argument in a slot of eight bytes; own. How a whole call is spelled in slots isn't told here.
use Rattle.std.specs.Prelude.{ℕ, ℤ, List, map, take, Option, unwrap_or}
use Rattle.std.specs.Int.{cast_signed, cast_unsigned, w64}
use Rattle.gl_words.specs.CallOf.{call_of, argument_count}
use Rattle.gl_words.specs.declared.call.Call.{Call}

-- an integer in a slot: itself, or in two's complement of 64 bits where it is negative; own
unfoldable pub slot_of : ℤ → ℕ
slot_of z = cast_unsigned w64 z

-- the integers that slots hold; own
unfoldable pub numbers_in : List ℕ → List ℤ
numbers_in slots = map (cast_signed w64) slots

-- the call with this number whose arguments slots begin with, where there is one; own
unfoldable pub call_begun : ℕ → List ℕ → Option Call
call_begun id slots = call_of id (numbers_in (take (unwrap_or (argument_count id) 0) slots))
