-- The table of calls read backwards: the call that has a number and arguments. It says no more than `Call.antt`, as `laws.rt` shows.
use Rattle.std.specs.Prelude.{ℕ, ℤ, Option, Some, None, option_and_then, if◌then◌else◌, ◌==◌, ◌≡◌, List, [], ◌∷◌, length}
use Rattle.std.specs.Option.{option_map}
use Rattle.gl_words.specs.Call.{id_of, kinds_of, arguments, IsInRange, each_call, again_of}
use Rattle.gl_words.specs.Making.{fits}
use Rattle.gl_words.specs.declared.call.Call.{Call}

-- the first of calls that has a number; own
abbrev pub numbered_in : List Call → ℕ → Option Call
numbered_in [] id = None
numbered_in (call ∷ calls) id = if id_of call == id then Some call else numbered_in calls id

-- a call of the row with this number, where there is one; own
unfoldable pub call_numbered : ℕ → Option Call
call_numbered id = numbered_in each_call id

-- the call of a call's row that has these arguments, where they are of its kinds; own
unfoldable pub made_of : Call → List ℤ → Option Call
made_of call args = if fits (kinds_of call) args then Some (again_of call args) else None

-- the call with this number and these arguments, where there is one; own
unfoldable pub call_of : ℕ → List ℤ → Option Call
call_of id args = option_and_then (λ call. made_of call args) (call_numbered id)

-- how many arguments the call with this number has, where there is one; own
unfoldable pub argument_count : ℕ → Option ℕ
argument_count id = option_map (λ call. length (arguments call)) (call_numbered id)

-- what the table says backwards is what it says forwards, both ways
abbrev pub CallOfLaw : Type 0
CallOfLaw =
    ((id : ℕ) (args : List ℤ) (call : Call) → call_of id args ≡ Some call → (id_of call ≡ id) × (arguments call ≡ args) × IsInRange call)
    × ((call : Call) → IsInRange call → call_of (id_of call) (arguments call) ≡ Some call)
