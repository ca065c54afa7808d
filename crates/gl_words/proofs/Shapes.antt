-- The table of shapes, as the columns of the table of calls.
use Rattle.std.proofs.Common.{◌≡◌, ◌≢◌, ℕ, ◌≤◌, List, [], ◌∷◌, length, map, refl, sym, ap, ◌∙◌, subst, Some, None, Option, IfSome}
use Rattle.std.specs.Str.{bytes_eq}
use Rattle.std.proofs.lemmas.Slice.Eq.{bytes_eq-Decides}
use Rattle.gl_words.proofs.Counts.{row_is, no_row_missing}
use Rattle.gl_words.proofs.Places.{IsFound}
use Rattle.gl_words.proofs.Rows.{by_test, few_kinds, call_numbered-is}
use Rattle.gl_words.specs.CallOf.{call_numbered}
use Rattle.gl_words.specs.Table.{Told, told, told_by}
use Rattle.gl_words.specs.declared.table.TableRow.{TableRow}
use Rattle.gl_words.specs.Call.{name_of, id_of, kinds_of, each_call}
use Rattle.gl_words.specs.Lookup.{found_in}
use Rattle.gl_words.specs.Shape.{IsNamedShape, shapes, shape_named}
use Rattle.gl_words.specs.declared.shape.ArgKind.{ArgKind}
use Rattle.gl_words.specs.declared.shape.Shape.{Shape}
use Rattle.gl_words.specs.declared.call.Call.{Call}
use Rattle.gl_words.specs.declared.call.Call.TheVariants as gl

abbrev pub shape_of : Call → ℕ × List ArgKind
shape_of call = (id_of call, kinds_of call)

abbrev pub shape_rows : List Call → List (List ℕ × (ℕ × List ArgKind))
shape_rows = map (λ call. (name_of call, shape_of call))

found_is_of_a_call : (calls : List Call) (name : List ℕ) (shape : ℕ × List ArgKind) → found_in (shape_rows calls) name ≡ Some shape → (call : Call) × (name_of call ≡ name) × (shape ≡ shape_of call)
found_is_of_a_call [] name shape h = absurd (cc)
found_is_of_a_call (call ∷ calls) name shape h =
    by_test (bytes_eq (name_of call) name) _ _ shape h
    (λ same is. (call, (bytes_eq-Decides (name_of call) name).0 same, cc))
    (λ later. found_is_of_a_call calls name shape later)

each_call_is_found : (call : Call) → found_in (shape_rows each_call) (name_of call) ≡ Some (shape_of call)
unfolding name_of id_of kinds_of
each_call_is_found gl.Finish = refl
each_call_is_found _ = refl

none_where_not_some : {X : Type 0} → (o : Option X) → ((x : X) → o ≡ Some x → ⊥) → o ≡ None
none_where_not_some None h = refl
none_where_not_some (Some x) h = absurd (h x refl)

some_is_some : {X : Type 0} (x y : X) → Some x ≡ Some y → x ≡ y
some_is_some x y h = cc

-- a call has at most nine arguments, so that has what is found by a name
pub named_shape_is_short : (name : List ℕ) (result : Option Shape) → IfSome result (IsNamedShape name) → IfSome result (λ (shape : Shape). length shape.kinds.now ≤ 9)
named_shape_is_short name None h = tt
named_shape_is_short name (Some shape) h = subst (λ (kinds : List ArgKind). length kinds ≤ 9) (sym (h.2.1)) (few_kinds (h.0))

-- ---- a row that is found by its name

-- the row is that of a call with this name, which its number finds
abbrev pub IsNamed : List ℕ → TableRow → Type 0
IsNamed name row = (call : Call) × (call_numbered row.id ≡ Some call) × (told_by row ≡ told call) × (name_of call ≡ name)

-- where no call has the name, no shape has it
pub no_shape_named : (name : List ℕ) → ((call : Call) → name_of call ≢ name) → shape_named name ≡ None
unfolding shapes
no_shape_named name h = none_where_not_some (found_in (shape_rows each_call) name) (λ shape found. let w = found_is_of_a_call each_call name shape found in h (w.0) (w.1))

-- the row of the call with a name has its shape
pub shape_is_named : (name : List ℕ) (row : TableRow) → IsNamed name row → Some (row.id, row.kinds.now) ≡ shape_named name
unfolding shapes
shape_is_named name row h =
    ap (λ (t : Told). Some (t.id, t.kinds)) (h.2) ∙ sym (each_call_is_found (h.0)) ∙ ap (found_in (shape_rows each_call)) (h.3)

-- a row that is found by a number has it
pub found_has_number : (id : ℕ) (row : TableRow) (found : IsFound id row) → row.id ≡ id
found_has_number id row found = ap (λ (t : Told). t.id) (found.2) ∙ call_numbered-is id (found.0) (found.1)

pub found_is_named : (id : ℕ) (row : TableRow) (name : List ℕ) → IsFound id row → row.name.now ≡ name → IsNamed name row
found_is_named id row name found same =
    (found.0, ap call_numbered (found_has_number id row found) ∙ found.1, found.2, ap (λ (t : Told). t.name) (sym (found.2)) ∙ same)

-- a number at which no call stands, or one with another name, is that of no call with the name
pub not_named_where_none : (id : ℕ) (name : List ℕ) → call_numbered id ≡ None → (call : Call) → id_of call ≡ id → name_of call ≢ name
not_named_where_none id name none call same is = no_row_missing call id (sym same) none

pub not_named_where_other : (id : ℕ) (row : TableRow) (name : List ℕ) → IsFound id row → row.name.now ≢ name → (call : Call) → id_of call ≡ id → name_of call ≢ name
not_named_where_other id row name found not call same is = not ((row_is row call id (sym same) found).same_name ∙ is)

-- the shape of the row is that of each call with the name
pub shape_is_of : (name : List ℕ) (row : TableRow) → IsNamed name row → (call : Call) → name_of call ≡ name → (row.id ≡ id_of call) × (row.kinds.now ≡ kinds_of call)
shape_is_of name row h call same =
    let e : Some (row.id, row.kinds.now) ≡ Some (shape_of call) =
    ap (λ (t : Told). Some (t.id, t.kinds)) (h.2) ∙ sym (each_call_is_found (h.0)) ∙ ap (found_in (shape_rows each_call)) (h.3 ∙ sym same) ∙ each_call_is_found call in
    (ap (λ (s : ℕ × List ArgKind). s.0) (some_is_some _ _ e), ap (λ (s : ℕ × List ArgKind). s.1) (some_is_some _ _ e))
