-- What a row that is found says of a call, and how many arguments there are.
use Rattle.std.proofs.Common.{◌≡◌, ℕ, ◌≤◌, List, [], length, sym, ap, ◌∙◌, arith, Some, None, Option, Bool, true, eqb, ◌∷◌, ◌+◌, ◌<◌, add-one, get_or, Bor}
use Rattle.std.specs.Option.{option_map}
use Rattle.gl_words.specs.Call.{name_of, id_of, kinds_of, arguments, is_answering, again_of, each_call}
use Rattle.std.specs.List.{list_all, list_any}
use Rattle.std.proofs.lemmas.Bool.{eqb-true}
use Rattle.gl_words.specs.Lookup.{of_length}
use Rattle.gl_words.specs.CallOf.{numbered_in, call_numbered, argument_count}
use Rattle.gl_words.specs.Table.{Told, IsRowOf, AreNumbers}
use Rattle.gl_words.proofs.Places.{IsFound, by_both, by_either}
use Rattle.gl_words.proofs.Rows.{by_test, name_of-again, id_of-again, kinds_of-again, is_answering-again, call_numbered-again, length-arguments, few_arguments}
use Rattle.gl_words.specs.declared.shape.ArgKind.{ArgKind}
use Rattle.gl_words.specs.declared.call.Call.{Call}
use Rattle.gl_words.specs.declared.table.TableRow.{TableRow}

some_is : (call other : Call) → Some call ≡ Some other → call ≡ other
some_is call other h = cc

-- the row of a call's number is that of the call
pub row_is : (row : TableRow) (call : Call) (id : ℕ) → id ≡ id_of call → IsFound id row → IsRowOf row call
row_is row call id same found =
    let is : found.0 ≡ again_of call [] = some_is _ _ (sym (found.1) ∙ ap call_numbered same ∙ call_numbered-again call) in
    record {
      same_id = ap (λ (t : Told). t.id) (found.2) ∙ ap id_of is ∙ id_of-again call [];
      same_name = ap (λ (t : Told). t.name) (found.2) ∙ ap name_of is ∙ name_of-again call [];
      same_kinds = ap (λ (t : Told). t.kinds) (found.2) ∙ ap kinds_of is ∙ kinds_of-again call [];
      same_answering = ap (λ (t : Told). t.answering) (found.2) ∙ ap is_answering is ∙ is_answering-again call [];
    }

-- each call has a row
pub no_row_missing : (call : Call) (id : ℕ) → id ≡ id_of call → call_numbered id ≡ None → ⊥
no_row_missing call id same none = let some = ap call_numbered same ∙ call_numbered-again call in absurd (cc (none, some))

pub row_count : (row : TableRow) (call : Call) → IsRowOf row call → length row.kinds.now ≡ length (arguments call)
row_count row call h = ap (λ (ks : List ArgKind). length ks) h.same_kinds ∙ sym (length-arguments call)

pub few_in_row : (row : TableRow) (call : Call) → IsRowOf row call → length row.kinds.now ≤ 9
few_in_row row call h = let few = few_arguments call in let same = row_count row call h in omega arith

pub argument_count-found : (row : TableRow) (id : ℕ) → IsFound id row → argument_count id ≡ Some (length row.kinds.now)
unfolding argument_count
argument_count-found row id found =
    ap (λ (o : Option Call). option_map (λ (call : Call). length (arguments call)) o) (found.1)
    ∙ ap Some (length-arguments (found.0) ∙ ap (λ (t : Told). length t.kinds) (sym (found.2)))

-- ---- the numbers by the lengths of names

numbered_passes : (p : Call → Bool) (calls : List Call) (id : ℕ) (call : Call) → list_all p calls ≡ true → numbered_in calls id ≡ Some call → p call ≡ true
numbered_passes p [] id call all h = absurd (cc)
numbered_passes p (one ∷ calls) id call all h =
    by_both (p one) (list_all p calls) all (λ first others.
    by_test (eqb (id_of one) id) _ _ call h
    (λ same is. ap p (sym (some_is one call is)) ∙ first)
    (λ later. numbered_passes p calls id call others later))

-- the group of its length has a call's number
pub number_is_in : (groups : List (Bor (List ℕ))) → AreNumbers groups → (call : Call) → list_any (λ id. eqb id (id_of call)) (of_length groups (length (name_of call))) ≡ true
unfolding call_numbered
number_is_in groups h call =
    ap (λ (n : ℕ). list_any (λ id. eqb id n) (of_length groups (length (name_of call)))) (sym (id_of-again call []))
    ∙ ap (λ (name : List ℕ). list_any (λ id. eqb id (id_of (again_of call []))) (of_length groups (length name))) (sym (name_of-again call []))
    ∙ numbered_passes (λ call. list_any (λ id. eqb id (id_of call)) (of_length groups (length (name_of call)))) each_call (id_of call) (again_of call []) h (call_numbered-again call)

-- a number that is in a list stands at a place
pub stands_in : (ids : List ℕ) (n : ℕ) → list_any (λ id. eqb id n) ids ≡ true → (k : ℕ) × (k < length ids) × (n ≡ get_or ids k 0)
stands_in [] n h = absurd (cc)
stands_in (id ∷ ids) n h =
    by_either (eqb id n) (list_any (λ id. eqb id n) ids) h
    (λ same. (0, omega arith, sym (eqb-true id n same)))
    (λ later. let w = stands_in ids n later in (w.0 + 1, omega (arith, w.1), rw add-one (w.2)))

pub number_stands : (groups : List (Bor (List ℕ))) → AreNumbers groups → (name ids : List ℕ) → ids ≡ of_length groups (length name) → (call : Call) → name_of call ≡ name
    → (k : ℕ) × (k < length ids) × (id_of call ≡ get_or ids k 0)
number_stands groups h name ids is call same =
    stands_in ids (id_of call)
    (ap (λ (xs : List ℕ). list_any (λ id. eqb id (id_of call)) xs) (is ∙ ap (λ (n : List ℕ). of_length groups (length n)) (sym same)) ∙ number_is_in groups h call)
