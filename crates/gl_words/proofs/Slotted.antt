-- Calls that are made of slots: what their arguments are, and that each call is made of its own.
use Rattle.std.proofs.Common.{◌≡◌, ℕ, zero, suc, ◌<◌, List, [], ◌∷◌, ◌++◌, length, map, take, drop, get_or, ◌≢◌, Fits, w64, refl, sym, ap, ◌∙◌, arith, Some, None, Option, option_and_then, IfSome, ℤ, pos}
use Rattle.std.specs.Prelude.{FitsSigned, unwrap_or}
use Rattle.std.specs.Int.{cast_signed}
use Rattle.std.proofs.lemmas.Int.{ints, to_z-of_z, of_z-to_z}
use Rattle.std.proofs.lemmas.List.{length-map, take_at, take-append-drop}
use Rattle.gl_words.specs.Kind.{AreOfKinds, IsOfKind}
use Rattle.gl_words.specs.Call.{id_of, kinds_of, arguments, IsInRange}
use Rattle.gl_words.specs.CallOf.{call_numbered, made_of, call_of, argument_count}
use Rattle.gl_words.specs.Making.{fits}
use Rattle.gl_words.specs.Slots.{slot_of, numbers_in, call_begun}
use Rattle.gl_words.specs.Table.{Told}
use Rattle.gl_words.proofs.Counts.{argument_count-found}
use Rattle.gl_words.proofs.Makings.{fits-length}
use Rattle.gl_words.proofs.Places.{IsFound, by_truth}
use Rattle.gl_words.proofs.Rows.{argument_count-again, call_of-is, call_of-again}
use Rattle.gl_words.specs.declared.shape.ArgKind.{ArgKind}
use Rattle.gl_words.specs.declared.shape.ArgKind.TheVariants.{Enum, Unsigned, Int, Fixed, Bool as Truth, Pointer}
use Rattle.gl_words.specs.declared.call.Call.{Call}
use Rattle.gl_words.specs.declared.table.TableRow.{TableRow}

-- ---- integers in slots

-- an integer of any kind fits 64 bits
kinds_fit : (kind : ArgKind) (z : ℤ) → IsOfKind kind z → FitsSigned w64 z
kinds_fit Enum z h = omega (arith, ints)
kinds_fit Unsigned z h = omega (arith, ints)
kinds_fit Int z h = omega (arith, ints)
kinds_fit Fixed z h = omega (arith, ints)
kinds_fit Truth z h = omega (arith, ints)
kinds_fit Pointer z h = omega (arith, ints)

-- what is put into slots is read back from them
map_back : (kinds : List ArgKind) (zs : List ℤ) → AreOfKinds kinds zs → numbers_in (map slot_of zs) ≡ zs
unfolding slot_of numbers_in
map_back [] [] h = refl
map_back [] (z ∷ zs) h = absurd h
map_back (kind ∷ kinds) [] h = absurd h
map_back (kind ∷ kinds) (z ∷ zs) h =
    ap (λ x. x ∷ numbers_in (map slot_of zs)) (to_z-of_z w64 z (kinds_fit kind z (h.0))) ∙ ap (λ xs. z ∷ xs) (map_back kinds zs (h.1))

pub arguments_back : (call : Call) → IsInRange call → numbers_in (map slot_of (arguments call)) ≡ arguments call
unfolding IsInRange
arguments_back call h = map_back (kinds_of call) (arguments call) h

-- integers of 64 bits are read back
pub numbers_back : (zs : List ℤ) → ((i : ℕ) → FitsSigned w64 (get_or zs i (pos 0))) → numbers_in (map slot_of zs) ≡ zs
unfolding slot_of numbers_in
numbers_back [] fit = refl
numbers_back (z ∷ zs) fit =
    ap (λ x. x ∷ numbers_in (map slot_of zs)) (to_z-of_z w64 z (fit 0)) ∙ ap (λ xs. z ∷ xs) (numbers_back zs (λ i. fit (suc i)))

-- integers read from slots are put into these slots again
map_forth : (n : ℕ) (slots : List ℕ) → ((i : ℕ) → Fits w64 (get_or slots i 0)) → map slot_of (numbers_in (take n slots)) ≡ take n slots
unfolding slot_of numbers_in
map_forth zero slots fit = refl
map_forth (suc n) [] fit = refl
map_forth (suc n) (slot ∷ slots) fit =
    ap (λ (x : ℕ). x ∷ map slot_of (numbers_in (take n slots))) (of_z-to_z w64 slot (fit 0).fits)
    ∙ ap (λ (xs : List ℕ). slot ∷ xs) (map_forth n slots (λ i. fit (suc i)))

-- slots begin with the integers that are read from them
begins_with : (n : ℕ) (slots : List ℕ) (zs : List ℤ) → ((i : ℕ) → Fits w64 (get_or slots i 0)) → zs ≡ numbers_in (take n slots)
    → slots ≡ map slot_of zs ++ drop n slots
begins_with n slots zs fit same =
    sym (take-append-drop n slots) ∙ ap (λ (s : List ℕ). s ++ drop n slots) (sym (ap (map slot_of) same ∙ map_forth n slots fit))

-- ---- the call of a row

pub call_of-none : (id : ℕ) (zs : List ℤ) → call_numbered id ≡ None → call_of id zs ≡ None
unfolding call_of
call_of-none id zs none = ap (λ (o : Option Call). option_and_then (λ (row : Call). made_of row zs) o) none

pub call_of-found : (id : ℕ) (call : Call) (zs : List ℤ) → call_numbered id ≡ Some call → call_of id zs ≡ made_of call zs
unfolding call_of
call_of-found id call zs found = ap (λ (o : Option Call). option_and_then (λ (row : Call). made_of row zs) o) found

made_of-short : (call : Call) (zs : List ℤ) → length (kinds_of call) ≢ length zs → made_of call zs ≡ None
unfolding made_of
made_of-short call zs not =
    by_truth (fits (kinds_of call) zs)
    (λ fit. absurd (not (fits-length (kinds_of call) zs fit)))
    (λ none. rw none refl)

-- where the row of the number has another count of arguments there is no call
pub call_of-short : (id : ℕ) (row : TableRow) (zs : List ℤ) → IsFound id row → length row.kinds.now ≢ length zs → call_of id zs ≡ None
call_of-short id row zs found not =
    call_of-found id (found.0) zs (found.1)
    ∙ made_of-short (found.0) zs (λ same. not (ap (λ (t : Told). length t.kinds) (found.2) ∙ same))

-- the call of the row of the number is the call that has it
pub call_of-row : (id : ℕ) (row : TableRow) (zs : List ℤ) → IsFound id row → made_of row.call zs ≡ call_of id zs
call_of-row id row zs found =
    ap (λ (t : Told). made_of t.call zs) (found.2) ∙ sym (call_of-found id (found.0) zs (found.1))

-- ---- the call that slots begin with

pub call_begun-none : (id : ℕ) (slots : List ℕ) → call_numbered id ≡ None → call_begun id slots ≡ None
unfolding call_begun
call_begun-none id slots none = call_of-none id _ none

count_is : (id : ℕ) (row : TableRow) → IsFound id row → unwrap_or (argument_count id) 0 ≡ length row.kinds.now
count_is id row found = ap (λ (o : Option ℕ). unwrap_or o 0) (argument_count-found row id found)

length-numbers_in : (slots : List ℕ) → length (numbers_in slots) ≡ length slots
unfolding numbers_in
length-numbers_in slots = length-map slots (cast_signed w64)

few_taken : (n : ℕ) (slots : List ℕ) → length slots < n → length (take n slots) < n
few_taken zero slots h = absurd (omega arith)
few_taken (suc n) [] h = omega arith
few_taken (suc n) (slot ∷ slots) h = let rest = few_taken n slots (omega arith) in omega arith

pub call_begun-short : (id : ℕ) (row : TableRow) (slots : List ℕ) → IsFound id row → length slots < length row.kinds.now → call_begun id slots ≡ None
unfolding call_begun
call_begun-short id row slots found short =
    ap (λ (n : ℕ). call_of id (numbers_in (take n slots))) (count_is id row found)
    ∙ call_of-short id row _ found (λ same.
    let many = length-numbers_in (take (length row.kinds.now) slots) in
    let few = few_taken (length row.kinds.now) slots short in
    absurd (omega arith))

pub behind_row : (id : ℕ) (row : TableRow) (slots behind : List ℕ) → IsFound id row → behind ≡ drop (length row.kinds.now) slots
    → behind ≡ drop (unwrap_or (argument_count id) 0) slots
behind_row id row slots behind found is = is ∙ ap (λ (n : ℕ). drop n slots) (sym (count_is id row found))

pub call_begun-row : (id : ℕ) (row : TableRow) (slots front : List ℕ) → IsFound id row → front ≡ take (length row.kinds.now) slots
    → made_of row.call (numbers_in front) ≡ call_begun id slots
unfolding call_begun
call_begun-row id row slots front found is =
    call_of-row id row (numbers_in front) found
    ∙ ap (λ (s : List ℕ). call_of id (numbers_in s)) (is ∙ ap (λ (n : ℕ). take n slots) (sym (count_is id row found)))

-- a call is in range, has the number, and slots begin with its arguments, with these others behind them
abbrev pub Begins : ℕ → List ℕ → Call → List ℕ → Type 0
Begins id slots call more = IsInRange call × (id_of call ≡ id) × (slots ≡ map slot_of (arguments call) ++ more)

pub call_begun-is : (id : ℕ) (slots : List ℕ) (call : Call) → ((i : ℕ) → Fits w64 (get_or slots i 0)) → call_begun id slots ≡ Some call
    → Begins id slots call (drop (unwrap_or (argument_count id) 0) slots)
unfolding call_begun
call_begun-is id slots call fit h =
    let is = call_of-is id _ call h in
    (is.2, is.0, begins_with (unwrap_or (argument_count id) 0) slots (arguments call) fit (is.1))

pub call_begun-again : (call : Call) (more : List ℕ) → IsInRange call → call_begun (id_of call) (map slot_of (arguments call) ++ more) ≡ Some call
unfolding call_begun
call_begun-again call more h =
    ap (λ (o : Option ℕ). call_of (id_of call) (numbers_in (take (unwrap_or o 0) (map slot_of (arguments call) ++ more)))) (argument_count-again call)
    ∙ ap (λ (s : List ℕ). call_of (id_of call) (numbers_in s)) (take_at (map slot_of (arguments call)) more (length (arguments call)) (length-map (arguments call) slot_of))
    ∙ ap (call_of (id_of call)) (arguments_back call h)
    ∙ call_of-again call h

-- a call that is found for a number and arguments is in range and has them, and is the only one
pub call_is_of : (id : ℕ) (args : List ℤ) (result : Option Call) → result ≡ call_of id args → IfSome result (λ call. (id_of call ≡ id) × (arguments call ≡ args) × IsInRange call)
call_is_of id args None h = tt
call_is_of id args (Some call) h = call_of-is id args call (sym h)

pub of_call_is : (id : ℕ) (args : List ℤ) (result : Option Call) → result ≡ call_of id args → (call : Call) → IsInRange call → id_of call ≡ id → arguments call ≡ args → result ≡ Some call
of_call_is id args result h call in_range same_id same_arguments =
    h ∙ ap (λ (n : ℕ). call_of n args) (sym same_id) ∙ ap (call_of (id_of call)) (sym same_arguments) ∙ call_of-again call in_range
