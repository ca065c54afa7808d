-- A table of names, and what a search in it finds. Not what the names stand for: `Names.antt` and `Call.antt` have that.
use Rattle.std.specs.Prelude.{ℕ, zero, suc, List, [], ◌∷◌, map, Option, Some, None, if◌then◌else◌}
use Rattle.std.specs.Borrow.{Bor}
use Rattle.std.specs.Str.{bytes_eq}
use Rattle.gl_words.specs.declared.names.Name.{Name}

-- the code's rows, as pairs; own
abbrev pub seen_names : List Name → List (List ℕ × ℕ)
seen_names = map (λ row. (row.0.now, row.1))

-- what stands beside the first row with the name; own
abbrev pub found_in : {X : Type 0} → List (List ℕ × X) → List ℕ → Option X
found_in [] name = None
found_in (row ∷ rows) name = if bytes_eq row.0 name then Some row.1 else found_in rows name

-- what stands in the group at a place, counted from 0; nothing where there is no group; own
abbrev pub of_length : {X : Type 0} → List (Bor (List X)) → ℕ → List X
of_length [] len = []
of_length (group ∷ groups) zero = group.now
of_length (group ∷ groups) (suc len) = of_length groups len
