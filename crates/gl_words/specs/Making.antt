-- What a call holds for integers of given kinds, and the call that is made of it. Which call has which kinds is told in `Call.antt`.
use Rattle.std.specs.Prelude.{Bool, true, false, ℕ, suc, ℤ, pos, negsuc, ◌^◌, ◌%◌, ◌-◌, Option, Some, None, unwrap_or, is_some, if◌then◌else◌, nat_lt, ◌==◌, List, [], ◌∷◌, slice_index_or}
use Rattle.std.specs.Int.{cast_signed, w32}
use Rattle.gl_words.specs.declared.shape.ArgKind.{ArgKind}
use Rattle.gl_words.specs.declared.shape.ArgKind.TheVariants.{Enum, Unsigned, Int, Fixed, Bool as Truth, Pointer}
use Rattle.gl_words.specs.declared.call.Call.{Call}

-- an integer as a number without sign of 32 bits, where it is one; own
abbrev pub unsigned_of : ℤ → Option ℕ
unsigned_of (pos n) = if nat_lt n (2 ^ 32) then Some n else None
unsigned_of (negsuc n) = None

-- an integer as a signed number of 32 bits, where it is one; own
abbrev pub signed_of : ℤ → Option ℤ
signed_of (pos n) = if nat_lt n (2 ^ 31) then Some (pos n) else None
signed_of (negsuc n) = if nat_lt n (2 ^ 31) then Some (negsuc n) else None

-- an integer as a truth value, where it is 0 or 1; own
abbrev pub truth_of : ℤ → Option Bool
truth_of (pos n) = if n == 0 then Some false else (if n == 1 then Some true else None)
truth_of (negsuc n) = None

-- whether an integer is of a kind; own
abbrev pub is_of_kind : ArgKind → ℤ → Bool
is_of_kind Enum z = is_some (unsigned_of z)
is_of_kind Unsigned z = is_some (unsigned_of z)
is_of_kind Int z = is_some (signed_of z)
is_of_kind Fixed z = is_some (signed_of z)
is_of_kind Truth z = is_some (truth_of z)
is_of_kind Pointer z = is_some (unsigned_of z)

-- whether there are as many integers as kinds, and each is of its kind; own
unfoldable pub fits : List ArgKind → List ℤ → Bool
fits [] [] = true
fits [] (z ∷ zs) = false
fits (kind ∷ kinds) [] = false
fits (kind ∷ kinds) (z ∷ zs) = if is_of_kind kind z then fits kinds zs else false

-- what a call holds for an argument of this kind; own
abbrev pub Value : ArgKind → Type 0
Value Enum = ℕ
Value Unsigned = ℕ
Value Int = ℤ
Value Fixed = ℤ
Value Truth = Bool
Value Pointer = ℕ

-- what a call holds for arguments of these kinds; own
abbrev pub Values : List ArgKind → Type 0
Values [] = Unit {0}
Values (kind ∷ kinds) = Value kind × Values kinds

infixr 6 ◌&◌
-- a value, and those behind it; own
abbrev pub ◌&◌ : {A B : Type 0} → A → B → A × B
value & values = (value, values)

-- what makes a call of a value of each kind, one after another; own
abbrev pub Maker : List ArgKind → Type 0
Maker [] = Call
Maker (kind ∷ kinds) = Value kind → Maker kinds

-- a truth value as an integer; section 2.3
abbrev pub truth_number : Bool → ℤ
truth_number false = pos 0
truth_number true = pos 1

-- the integer that a value is; own
abbrev pub integer_of : (kind : ArgKind) → Value kind → ℤ
integer_of Enum value = pos value
integer_of Unsigned value = pos value
integer_of Int value = value
integer_of Fixed value = value
integer_of Truth value = truth_number value
integer_of Pointer value = pos value

-- the integers that values are; own
abbrev pub integers : (kinds : List ArgKind) → Values kinds → List ℤ
integers [] values = []
integers (kind ∷ kinds) values = integer_of kind (values.0) ∷ integers kinds (values.1)

-- the low 32 bits of an integer in two's complement; own
abbrev pub low_bits : ℤ → ℕ
low_bits (pos n) = n % 2 ^ 32
low_bits (negsuc n) = 2 ^ 32 - suc (n % 2 ^ 32)

-- the low 32 bits of the integer at a place, as a number without sign; of 0 where no integer stands there; own
unfoldable pub unsigned_at : List ℤ → ℕ → ℕ
unsigned_at args at = low_bits (slice_index_or args at (pos 0))

-- the low 32 bits of the integer at a place, as a signed number; of 0 where no integer stands there; own
unfoldable pub signed_at : List ℤ → ℕ → ℤ
signed_at args at = cast_signed w32 (low_bits (slice_index_or args at (pos 0)))

-- the integer at a place as a truth value; false where it is none, or no integer stands there; own
unfoldable pub truth_at : List ℤ → ℕ → Bool
truth_at args at = unwrap_or (truth_of (slice_index_or args at (pos 0))) false

-- the integer at a place as a value of a kind; own
abbrev pub value_at : (kind : ArgKind) → List ℤ → ℕ → Value kind
value_at Enum args at = unsigned_at args at
value_at Unsigned args at = unsigned_at args at
value_at Int args at = signed_at args at
value_at Fixed args at = signed_at args at
value_at Truth args at = truth_at args at
value_at Pointer args at = unsigned_at args at

-- the values of the integers from a place on; own
abbrev pub values_at : (kinds : List ArgKind) → List ℤ → ℕ → Values kinds
values_at [] args at = tt
values_at (kind ∷ kinds) args at = (value_at kind args at, values_at kinds args (suc at))

-- the call that is made of values; own
abbrev pub made_by : (kinds : List ArgKind) → Maker kinds → Values kinds → Call
made_by [] call values = call
made_by (kind ∷ kinds) make values = made_by kinds (make (values.0)) (values.1)
