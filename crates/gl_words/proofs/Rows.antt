-- The table of calls read backwards and forwards. What holds of each row is shown by computing it; all else follows from that.
use Rattle.std.proofs.Common.{◌≡◌, ℕ, ℤ, ◌≤◌, ◌<◌, ◌^◌, Bool, true, false, cond, eqb, List, [], ◌∷◌, length, refl, sym, ap, ◌∙◌, lit≤, lit<, subst, Some, None, Option, option_and_then}
use Rattle.std.specs.Option.{option_map}
use Rattle.std.proofs.lemmas.Bool.{eqb-true}
use Rattle.std.proofs.lemmas.Option.{option_and_then_some}
use Rattle.gl_words.specs.Kind.{AreOfKinds}
use Rattle.gl_words.specs.Making.{fits, Values, integers, values_at, made_by, signed_at, unsigned_at, truth_at}
use Rattle.gl_words.specs.Call.{row_of, name_of, id_of, kinds_of, arguments, IsInRange, is_answering, again_of, each_call}
use Rattle.gl_words.specs.CallOf.{numbered_in, call_numbered, made_of, call_of, argument_count, CallOfLaw}
use Rattle.gl_words.proofs.Makings.{fits-is, fits-again, values_at-again}
use Rattle.gl_words.specs.declared.shape.ArgKind.{ArgKind}
use Rattle.gl_words.specs.declared.call.Call.{Call}
use Rattle.gl_words.specs.declared.call.Call.TheVariants as gl

-- a test that picks one of two answers, taken apart
pub by_test : {A P : Type 0} (b : Bool) (x y : Option A) (z : A) → cond b x y ≡ Some z → ((b ≡ true) → x ≡ Some z → P) → (y ≡ Some z → P) → P
by_test true x y z h then_this or_that = then_this refl h
by_test false x y z h then_this or_that = or_that h

-- ---- what holds of each row

-- a call made again is of the row
pub id_of-again : (call : Call) (args : List ℤ) → id_of (again_of call args) ≡ id_of call
unfolding id_of again_of
id_of-again gl.Finish args = refl
id_of-again _ args = refl

pub kinds_of-again : (call : Call) (args : List ℤ) → kinds_of (again_of call args) ≡ kinds_of call
unfolding kinds_of again_of
kinds_of-again gl.Finish args = refl
kinds_of-again _ args = refl

pub name_of-again : (call : Call) (args : List ℤ) → name_of (again_of call args) ≡ name_of call
unfolding name_of again_of
name_of-again gl.Finish args = refl
name_of-again _ args = refl

pub is_answering-again : (call : Call) (args : List ℤ) → is_answering (again_of call args) ≡ is_answering call
unfolding is_answering again_of
is_answering-again gl.Finish args = refl
is_answering-again _ args = refl

again_of-again : (call : Call) (some args : List ℤ) → again_of (again_of call some) args ≡ again_of call args
unfolding again_of
again_of-again gl.Finish some args = refl
again_of-again _ some args = refl

-- its arguments are the values that are read
arguments-again : (call : Call) (args : List ℤ) → arguments (again_of call args) ≡ integers (kinds_of call) (values_at (kinds_of call) args 0)
unfolding arguments kinds_of again_of
arguments-again gl.Finish args = refl
arguments-again _ args = refl

-- a row is found by its number
pub call_numbered-again : (call : Call) → call_numbered (id_of call) ≡ Some (again_of call [])
unfolding call_numbered id_of again_of signed_at unsigned_at truth_at
call_numbered-again gl.Finish = refl
call_numbered-again _ = refl

-- a call is made of what it holds
made_by-values : (call : Call) → made_by (row_of call).kinds (row_of call).make (row_of call).values ≡ call
unfolding row_of
made_by-values gl.Finish = refl
made_by-values _ = refl

arguments-values : (call : Call) → arguments call ≡ integers (row_of call).kinds (row_of call).values
unfolding arguments
arguments-values gl.Finish = refl
arguments-values _ = refl

again_of-row : (call : Call) (args : List ℤ) → again_of call args ≡ made_by (row_of call).kinds (row_of call).make (values_at (row_of call).kinds args 0)
unfolding again_of
again_of-row gl.Finish args = refl
again_of-row _ args = refl

pub length-arguments : (call : Call) → length (arguments call) ≡ length (kinds_of call)
unfolding arguments kinds_of
length-arguments gl.Finish = refl
length-arguments _ = refl

-- a call has at most nine arguments
pub few_kinds : (call : Call) → length (kinds_of call) ≤ 9
unfolding kinds_of
few_kinds gl.Finish = lit≤ tt
few_kinds _ = lit≤ tt

pub few_arguments : (call : Call) → length (arguments call) ≤ 9
unfolding arguments
few_arguments gl.Finish = lit≤ tt
few_arguments _ = lit≤ tt

-- the number of a call has 16 bits
pub small_id : (call : Call) → id_of call < 2 ^ 16
unfolding id_of
small_id gl.Finish = lit< tt
small_id _ = lit< tt

-- ---- backwards and forwards

numbered_in-is : (calls : List Call) (id : ℕ) (call : Call) → numbered_in calls id ≡ Some call → id_of call ≡ id
numbered_in-is [] id call h = absurd (cc)
numbered_in-is (one ∷ calls) id call h =
    by_test (eqb (id_of one) id) _ _ call h
    (λ same is. ap id_of (sym (cc)) ∙ eqb-true (id_of one) id same)
    (λ later. numbered_in-is calls id call later)

pub call_numbered-is : (id : ℕ) (call : Call) → call_numbered id ≡ Some call → id_of call ≡ id
unfolding call_numbered
call_numbered-is id call h = numbered_in-is each_call id call h

-- a call is the row of this number with these arguments
abbrev pub IsRow : ℕ → List ℤ → Call → Type 0
IsRow id args call = (id_of call ≡ id) × (arguments call ≡ args) × IsInRange call

again_is : (call : Call) (args : List ℤ) → fits (kinds_of call) args ≡ true → IsRow (id_of call) args (again_of call args)
unfolding IsInRange
again_is call args fit =
    let is = fits-is (kinds_of call) args 0 args refl fit in
    let same = arguments-again call args ∙ is.0 in
    let kinds_fit : AreOfKinds (kinds_of (again_of call args)) args = subst (λ (ks : List ArgKind). AreOfKinds ks args) (sym (kinds_of-again call args)) (is.1) in
    (id_of-again call args, same, subst (λ (zs : List ℤ). AreOfKinds (kinds_of (again_of call args)) zs) (sym same) kinds_fit)

made_of-is : (row : Call) (args : List ℤ) (call : Call) → made_of row args ≡ Some call → IsRow (id_of row) args call
unfolding made_of
made_of-is row args call h =
    by_test (fits (kinds_of row) args) _ _ call h
    (λ fit is. let same : again_of row args ≡ call = cc in subst (λ (c : Call). IsRow (id_of row) args c) same (again_is row args fit))
    (λ none. absurd (cc))

pub call_of-is : (id : ℕ) (args : List ℤ) (call : Call) → call_of id args ≡ Some call → IsRow id args call
unfolding call_of
call_of-is id args call h =
    option_and_then_some (λ (row : Call). made_of row args) (call_numbered id) call h (λ row found made.
    subst (λ (n : ℕ). IsRow n args call) (call_numbered-is id row found) (made_of-is row args call made))

-- a call is made again of its own arguments
again_of-arguments : (call : Call) → IsInRange call → again_of call (arguments call) ≡ call
unfolding IsInRange kinds_of
again_of-arguments call h =
    let values = arguments-values call in
    let fit : AreOfKinds (row_of call).kinds (integers (row_of call).kinds (row_of call).values) = subst (λ (zs : List ℤ). AreOfKinds (row_of call).kinds zs) values h in
    again_of-row call (arguments call)
    ∙ ap (λ (vs : Values (row_of call).kinds). made_by (row_of call).kinds (row_of call).make vs) (values_at-again (row_of call).kinds (row_of call).values (arguments call) 0 values fit)
    ∙ made_by-values call

pub call_of-again : (call : Call) → IsInRange call → call_of (id_of call) (arguments call) ≡ Some call
unfolding call_of made_of IsInRange
call_of-again call h =
    let fit : fits (kinds_of (again_of call [])) (arguments call) ≡ true = ap (λ (ks : List ArgKind). fits ks (arguments call)) (kinds_of-again call []) ∙ fits-again (kinds_of call) (arguments call) h in
    ap (λ (o : Option Call). option_and_then (λ (row : Call). made_of row (arguments call)) o) (call_numbered-again call)
    ∙ ap (λ (b : Bool). cond b (Some (again_of (again_of call []) (arguments call))) None) fit
    ∙ ap Some (again_of-again call [] (arguments call) ∙ again_of-arguments call h)

pub call_of-law : CallOfLaw
call_of-law = (call_of-is, call_of-again)

-- ---- how many arguments there are

abbrev pub HasCount : ℕ → ℕ → Type 0
HasCount id count = (call : Call) × (id_of call ≡ id) × (length (arguments call) ≡ count)

count_is : (id count : ℕ) (o : Option Call) → call_numbered id ≡ o → option_map (λ (call : Call). length (arguments call)) o ≡ Some count → HasCount id count
count_is id count None found h = absurd (cc)
count_is id count (Some call) found h = (call, call_numbered-is id call found, cc)

pub argument_count-is : (id count : ℕ) → argument_count id ≡ Some count → HasCount id count
unfolding argument_count
argument_count-is id count h = count_is id count (call_numbered id) refl h

pub argument_count-again : (call : Call) → argument_count (id_of call) ≡ Some (length (arguments call))
unfolding argument_count
argument_count-again call =
    ap (option_map (λ (call : Call). length (arguments call))) (call_numbered-again call)
    ∙ ap Some (length-arguments (again_of call []) ∙ ap (λ (ks : List ArgKind). length ks) (kinds_of-again call []) ∙ sym (length-arguments call))

pub ruleset rows = (call_of-is, call_of-again)

pub ruleset counts = (argument_count-is, argument_count-again)
