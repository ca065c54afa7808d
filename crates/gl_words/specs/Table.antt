-- The code's table of calls as contracts see it: rows at the places of their numbers, and places that are empty.
use Rattle.std.specs.Prelude.{◌≡◌, Bool, true, false, ℕ, suc, List, [], ◌∷◌, map, length, Option, Some, None, if◌then◌else◌, ◌==◌}
use Rattle.std.specs.Borrow.{Bor}
use Rattle.std.specs.List.{list_all, list_any}
use Rattle.gl_words.specs.Call.{name_of, id_of, kinds_of, is_answering, each_call}
use Rattle.gl_words.specs.Lookup.{of_length}
use Rattle.gl_words.specs.declared.call.Call.{Call}
use Rattle.gl_words.specs.declared.shape.ArgKind.{ArgKind}
use Rattle.gl_words.specs.declared.table.TableRow.{TableRow}

-- what a row tells, and a call of the row; own
pub record Told : Type 0 where
  pub id : ℕ
  pub name : List ℕ
  pub kinds : List ArgKind
  pub answering : Bool
  pub call : Call

-- what is to be told of a call; own
abbrev pub told : Call → Told
told call = record { id = id_of call; name = name_of call; kinds = kinds_of call; answering = is_answering call; call = call }

-- what a row of the code tells; own
abbrev pub told_by : TableRow → Told
told_by row = record { id = row.id; name = row.name.now; kinds = row.kinds.now; answering = row.answering; call = row.call }

-- what stands at the places that aren't empty; own
abbrev pub told_in : List (Option TableRow) → List Told
told_in [] = []
told_in (None ∷ rows) = told_in rows
told_in (Some row ∷ rows) = told_by row ∷ told_in rows

-- whether each row stands at the place of its number, where the first place is this one; own
abbrev pub are_numbered : ℕ → List (Option TableRow) → Bool
are_numbered at [] = true
are_numbered at (None ∷ rows) = are_numbered (suc at) rows
are_numbered at (Some row ∷ rows) = if row.id == at then are_numbered (suc at) rows else false

-- the rows are those of the calls, each at the place of its number; own
pub record IsTable (rows : List (Option TableRow)) : Type 0 where
  pub same_rows : told_in rows ≡ map told each_call
  pub numbered : are_numbered 0 rows ≡ true

-- a row is that of a call; own
pub record IsRowOf (row : TableRow) (call : Call) : Type 0 where
  pub same_id : row.id ≡ id_of call
  pub same_name : row.name.now ≡ name_of call
  pub same_kinds : row.kinds.now ≡ kinds_of call
  pub same_answering : row.answering ≡ is_answering call

-- the group of a length has the number of each call whose name has that length; own
abbrev pub AreNumbers : List (Bor (List ℕ)) → Type 0
AreNumbers groups = list_all (λ call. list_any (λ id. id == id_of call) (of_length groups (length (name_of call)))) each_call ≡ true
