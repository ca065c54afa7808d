-- A table whose rows stand at the places of their numbers, against the table of calls.
use Rattle.std.proofs.Common.{◌≡◌, ℕ, zero, suc, ◌+◌, ◌<◌, Bool, true, false, cond, ◌&&◌, ◌||◌, eqb, List, [], ◌∷◌, map, refl, sym, ap, ◌∙◌, arith, Some, None, Option, get_or}
use Rattle.std.specs.Option.{option_map}
use Rattle.std.proofs.lemmas.Bool.{eqb-true}
use Rattle.std.proofs.lemmas.Bool.Decides.{nat_tests}
use Rattle.gl_words.specs.Call.{id_of, each_call}
use Rattle.gl_words.specs.CallOf.{numbered_in, call_numbered}
use Rattle.gl_words.specs.Table.{Told, told, told_by, told_in, are_numbered, IsTable}
use Rattle.gl_words.specs.declared.call.Call.{Call}
use Rattle.gl_words.specs.declared.table.TableRow.{TableRow}

-- either truth value, each with what follows from it
pub by_truth : {P : Type 0} (b : Bool) → (b ≡ true → P) → (b ≡ false → P) → P
by_truth true if_true if_false = if_true refl
by_truth false if_true if_false = if_false refl

-- the first of what is told that has a number
abbrev told_numbered : List Told → ℕ → Option Told
told_numbered [] id = None
told_numbered (one ∷ others) id = cond (eqb one.id id) (Some one) (told_numbered others id)

numbered_in-told : (calls : List Call) (id : ℕ) → told_numbered (map told calls) id ≡ option_map told (numbered_in calls id)
numbered_in-told [] id = refl
numbered_in-told (call ∷ calls) id = by_truth (eqb (id_of call) id) (λ is. rw is refl) (λ not. rw not (numbered_in-told calls id))

-- a test that picks nothing where it fails, taken apart
both_true : {P : Type 0} (b other : Bool) → cond b other false ≡ true → (b ≡ true → other ≡ true → P) → P
both_true true other h then_this = then_this refl h
both_true false other h then_this = absurd (cc)

other_number : (one other : ℕ) → one < other → eqb one other ≡ false
other_number one other h = grind (arith, nat_tests)

same_number : (one other : ℕ) → one ≡ other → eqb one other ≡ true
same_number one other h = grind (arith, nat_tests)

-- both of two truth values, and one of two
pub by_both : {P : Type 0} (b other : Bool) → (b && other) ≡ true → (b ≡ true → other ≡ true → P) → P
by_both true other h then_this = then_this refl h
by_both false other h then_this = absurd (cc)

pub by_either : {P : Type 0} (b other : Bool) → (b || other) ≡ true → (b ≡ true → P) → (other ≡ true → P) → P
by_either true other h left right = left refl
by_either false other h left right = right h

-- no row has a number below that of the first place
none_before : (rows : List (Option TableRow)) (at id : ℕ) → are_numbered at rows ≡ true → id < at → told_numbered (told_in rows) id ≡ None
none_before [] at id h before = refl
none_before (None ∷ rows) at id h before = none_before rows (suc at) id h (omega arith)
none_before (Some row ∷ rows) at id h before =
    both_true (eqb row.id at) (are_numbered (suc at) rows) h (λ first others.
    let is = eqb-true row.id at first in
    let not : eqb row.id id ≡ false = grind (arith, nat_tests) in
    rw not (none_before rows (suc at) id others (omega arith)))

-- what is told at a place
abbrev pub told_at : Option TableRow → Option Told
told_at None = None
told_at (Some row) = Some (told_by row)

-- the row with a number stands at the place of the number
there : (rows : List (Option TableRow)) (at id k : ℕ) → are_numbered at rows ≡ true → id ≡ at + k → told_numbered (told_in rows) id ≡ told_at (get_or rows k None)
there [] at id zero h is = refl
there [] at id (suc k) h is = refl
there (None ∷ rows) at id zero h is = none_before rows (suc at) id h (omega arith)
there (None ∷ rows) at id (suc k) h is = there rows (suc at) id k h (omega arith)
there (Some row ∷ rows) at id zero h is =
    both_true (eqb row.id at) (are_numbered (suc at) rows) h (λ first others.
    let same = eqb-true row.id at first in
    rw (same_number row.id id (omega arith)) refl)
there (Some row ∷ rows) at id (suc k) h is =
    both_true (eqb row.id at) (are_numbered (suc at) rows) h (λ first others.
    let same = eqb-true row.id at first in
    rw (other_number row.id id (omega arith)) (there rows (suc at) id k others (omega arith)))

-- what is told of the call with a number is what stands at its place
pub told-numbered : (rows : List (Option TableRow)) (id : ℕ) → IsTable rows → option_map told (call_numbered id) ≡ told_at (get_or rows id None)
unfolding call_numbered
told-numbered rows id h =
    sym (numbered_in-told each_call id) ∙ ap (λ (tolds : List Told). told_numbered tolds id) (sym h.same_rows) ∙ there rows 0 id id h.numbered (omega arith)

-- the call with a number is that whose row is found
abbrev pub IsFound : ℕ → TableRow → Type 0
IsFound id row = (call : Call) × (call_numbered id ≡ Some call) × (told_by row ≡ told call)

found_where_told : (id : ℕ) (row : TableRow) (o : Option Call) → call_numbered id ≡ o → option_map told o ≡ Some (told_by row) → IsFound id row
found_where_told id row None is h = absurd (cc)
found_where_told id row (Some call) is h = (call, is, cc)

none_where_not_told : (o : Option Call) → option_map told o ≡ None → o ≡ None
none_where_not_told None h = refl
none_where_not_told (Some call) h = absurd (cc)

pub row_is_found : (rows : List (Option TableRow)) (id : ℕ) (row : TableRow) → IsTable rows → get_or rows id None ≡ Some row → IsFound id row
row_is_found rows id row h is = found_where_told id row (call_numbered id) refl (told-numbered rows id h ∙ ap told_at is)

pub no_row_is_found : (rows : List (Option TableRow)) (id : ℕ) → IsTable rows → get_or rows id None ≡ None → call_numbered id ≡ None
no_row_is_found rows id h is = none_where_not_told (call_numbered id) (told-numbered rows id h ∙ ap told_at is)
