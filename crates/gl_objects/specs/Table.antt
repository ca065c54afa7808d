-- The names of one kind that are in use: a list in rising order, each name with what it stands for; own.
use Rattle.std.specs.Prelude.{◌≡◌, ℕ, ◌+◌, Bool, not, if◌then◌else◌, List, [], ◌∷◌, length, take, is_some, Option, Some, None}
use Rattle.std.specs.Ordering.{nat_cmp}
use Rattle.std.specs.Option.{option_map, unwrap_or}
use Rattle.std.specs.List.{filter, list_any, range_with_len, sum_by}
use Rattle.std.specs.Map.{lookup, values_of}
use Rattle.std.specs.BTreeMap.{insert_entry, is_at}
use Rattle.gl_objects.specs.declared.named.Named.{Named}
use Rattle.gl_objects.specs.declared.named.Named.TheVariants.{Generated, Object}

-- the object that is meant: a name that was given and not bound since is none (section 2.9)
abbrev pub object_of : {T : Type 0} → Option (Named T) → Option T
object_of None = None
object_of (Some Generated) = None
object_of (Some (Object held)) = Some held

-- how many bytes a name holds, where those of an object are counted by `size`; own
abbrev pub size_in : {T : Type 0} → (T → ℕ) → Named T → ℕ
size_in size Generated = 0
size_in size (Object held) = size held

-- whether a name is among these; own
abbrev pub is_among : List ℕ → ℕ → Bool
is_among names name = list_any (λ other. is_at (nat_cmp other) name) names

module _ {T : Type 0} where
  -- what a name stands for: none where it isn't in use; own
  abbrev pub named : List (ℕ × Named T) → ℕ → Option (Named T)
  named table name = lookup (is_at (nat_cmp name)) table

  -- the object of a name: none where it isn't in use, and where it was given and not bound since (section 2.9)
  abbrev pub object_in : List (ℕ × Named T) → ℕ → Option T
  object_in table name = object_of (named table name)

  -- the table in which a name stands for something; own
  abbrev pub put : ℕ → Named T → List (ℕ × Named T) → List (ℕ × Named T)
  put name what table = insert_entry nat_cmp table name what

  -- the table after a name was bound: its object exists, as the empty one if it is new (section 2.9)
  abbrev pub bound : T → ℕ → List (ℕ × Named T) → List (ℕ × Named T)
  bound empty name table = if is_some (object_in table name) then table else put name (Object empty) table

  -- whether a name is in use nowhere; own
  abbrev pub is_free : List (ℕ × Named T) → ℕ → Bool
  is_free table name = not (is_some (named table name))

  -- so many names from 1 on are all in use; own
  abbrev pub AreUsed : List (ℕ × Named T) → ℕ → Type 0
  AreUsed table k = filter (is_free table) (range_with_len 1 k) ≡ []

  -- the n least names from 1 on that are in use nowhere (section 2.9, which leaves the choice open): of the numbers from 1
  -- on, as many as names are in use and n more, those that are free, and of these the first n; own
  unfoldable pub least_free : List (ℕ × Named T) → ℕ → List ℕ
  least_free table n = take n (filter (is_free table) (range_with_len 1 (length table + n)))

  -- the table after these names were given (section 2.9)
  unfoldable pub given : List ℕ → List (ℕ × Named T) → List (ℕ × Named T)
  given [] table = table
  given (name ∷ names) table = given names (put name Generated table)

  -- the table without these names; those that aren't in use change nothing (section 2.9)
  unfoldable pub without : List ℕ → List (ℕ × Named T) → List (ℕ × Named T)
  without names table = filter (λ e. not (is_among names e.0)) table

  -- the bytes that the object of a name holds; own
  abbrev pub size_at : (T → ℕ) → List (ℕ × Named T) → ℕ → ℕ
  size_at size table name = unwrap_or (option_map (size_in size) (named table name)) 0

  -- the bytes that all objects hold; own
  unfoldable pub total : (T → ℕ) → List (ℕ × Named T) → ℕ
  total size table = sum_by (size_in size) (values_of table)
