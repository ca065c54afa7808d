-- A call that asks for a number of tracked state has no error: each name of a row is one that its get takes. The names of IsEnabled's rows are those of arrays.
use Rattle.std.proofs.Common.{◌≡◌, ℕ, ℤ, arith, Bool, true, false, ◌||◌, cond, eqb, List, [], ◌∷◌, map, Option, Some, None, ◌⊎◌, inl, inr, refl, sym, ap}
use Rattle.std.specs.List.{list_any}
use Rattle.std.specs.Option.{is_some}
use Rattle.std.proofs.lemmas.Bool.{cond-true, eqb-true, eq-eqb, or_left, or_right}
use Rattle.std.proofs.lemmas.Bool.Decides.{nat_tests}
use Rattle.std.proofs.lemmas.Option.{none-some}
use Rattle.gl_words.specs.declared.call.Call.{Call}
use Rattle.gl_words.specs.declared.call.Call.TheVariants.{GetIntegerv, GetPointerv, IsEnabled}
use Rattle.gl_tracked.specs.declared.tracked.Tracked.{Tracked}
use Rattle.gl_tracked.specs.Fault.{fault_of, is_among}
use Rattle.gl_tracked.specs.Gets.{number_beside, enabled_asked, enabled_rows}
use Rattle.gl_tracked.specs.Step.{number_asked}
use Rattle.gl_tracked.specs.Tracked.{arrays}

some-is_some : (asked : Option ℤ) (number : ℤ) → asked ≡ Some number → is_some asked ≡ true
some-is_some asked number is = ap (λ (o : Option ℤ). is_some o) is

this_or_others : (is_this : Bool) (value number : ℤ) (others : Option ℤ) → cond is_this (Some value) others ≡ Some number → (is_this ≡ true) ⊎ (others ≡ Some number)
this_or_others true value number others h = inl refl
this_or_others false value number others h = inr h

-- a name with a number beside it is one of the names of the rows
number_beside-named : (rows : List (ℕ × ℤ)) (name : ℕ) (number : ℤ) → number_beside rows name ≡ Some number → list_any (λ known. eqb known name) (map (λ (row : ℕ × ℤ). row.0) rows) ≡ true
number_beside-named [] name number h = absurd (none-some number h)
number_beside-named ((known, value) ∷ rows) name number h = elim (this_or_others (eqb name known) value number (number_beside rows name) h) [
  | inl this ↦ or_left _ _ (eq-eqb known name (sym (eqb-true name known this)))
  | inr others ↦ or_right _ _ (number_beside-named rows name number others)
]

neither : (is_this : Bool) (value : ℤ) (others : Option ℤ) → cond is_this (Some value) others ≡ None → (is_this ≡ false) × (others ≡ None)
neither true value others h = absurd (cc)
neither false value others h = (refl, h)

same_test : (a b : ℕ) → eqb a b ≡ false → eqb b a ≡ false
same_test a b h = grind (arith, nat_tests)

-- a name with no number beside it is none of the names of the rows
number_beside-unnamed : (rows : List (ℕ × ℤ)) (name : ℕ) → number_beside rows name ≡ None → list_any (λ known. eqb known name) (map (λ (row : ℕ × ℤ). row.0) rows) ≡ false
number_beside-unnamed [] name h = refl
number_beside-unnamed ((known, value) ∷ rows) name h =
    let no = neither (eqb name known) value (number_beside rows name) h in
    rw (same_test name known (no.0), number_beside-unnamed rows name (no.1)) refl

-- where the second isn't so, both together are as the first
pub or_neither : (a b : Bool) → b ≡ false → (a || b) ≡ a
or_neither true b h = refl
or_neither false b h = h

-- a name for which IsEnabled gives no number of tracked state is that of no array
pub enabled_is_no_array_name : (tracked : Tracked) (name : ℕ) → enabled_asked tracked name ≡ None → is_among arrays name ≡ false
unfolding enabled_asked enabled_rows is_among
enabled_is_no_array_name tracked name h = number_beside-unnamed (enabled_rows tracked) name h

pub enabled_is_array_name : (tracked : Tracked) (name : ℕ) (number : ℤ) → enabled_asked tracked name ≡ Some number → is_among arrays name ≡ true
unfolding enabled_asked enabled_rows is_among
enabled_is_array_name tracked name number h = number_beside-named (enabled_rows tracked) name number h

-- a call that asks for a number of tracked state has no error
pub fault_of-asked : (tracked : Tracked) (call : Call) (number : ℤ) → number_asked tracked call ≡ Some number → fault_of tracked call ≡ None
unfolding number_asked fault_of
fault_of-asked tracked (GetIntegerv pname params) number asked = cond-true _ _ _ (or_left _ _ (some-is_some _ number asked))
fault_of-asked tracked (GetPointerv pname params) number asked = cond-true _ _ _ (some-is_some _ number asked)
fault_of-asked tracked (IsEnabled cap) number asked = cond-true _ _ _ (or_right _ _ (enabled_is_array_name tracked cap number asked))
fault_of-asked tracked _ number asked = absurd (none-some number asked)
