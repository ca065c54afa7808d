-- What a draw needs: the array of a unit, and elements that can be drawn.
use Rattle.std.proofs.Common.{◌≡◌, ℕ, zero, suc, ◌<◌, ℤ, pos, ◌≤ℤ◌, true, List, [], ◌∷◌, get_or, None, arith}
use Rattle.std.specs.Prelude.{int_le}
use Rattle.std.proofs.lemmas.Bool.{and_parts}
use Rattle.std.proofs.lemmas.Int.{ints}
use Rattle.gl_words.specs.declared.call.Call.TheVariants.{DrawArrays, DrawElements}
use Rattle.gl_words.specs.declared.error.GlError.TheVariants.{InvalidEnum, InvalidValue}
use Rattle.gl_tracked.specs.declared.tracked.ArrayState.{ArrayState}
use Rattle.gl_tracked.specs.declared.tracked.Tracked.{Tracked}
use Rattle.gl_tracked.specs.Enumerants.{index_types, modes}
use Rattle.gl_tracked.specs.Fault.{fault_of, is_among, is_drawable, is_element_count}
use Rattle.gl_tracked.specs.Tracked.{AreTwoArrays, IsArray}
use Rattle.gl_tracked.proofs.Faults.{first_passed}

-- the array of the unit at place 0 or 1
pub unit_is_array : (texture : List ArrayState) (unit : ℕ) (d : ArrayState) → AreTwoArrays texture → unit < 2 → IsArray (get_or texture unit d)
unit_is_array [] unit d are below = absurd are
unit_is_array (one ∷ []) unit d are below = absurd are
unit_is_array (one ∷ other ∷ []) zero d are below = are.0
unit_is_array (one ∷ other ∷ []) (suc zero) d are below = are.1
unit_is_array (one ∷ other ∷ []) (suc (suc more)) d are below = absurd (omega (arith, below))
unit_is_array (one ∷ other ∷ third ∷ others) unit d are below = absurd are

at_most : (a b : ℤ) → int_le a b ≡ true → a ≤ℤ b
at_most a b h = grind (arith, ints)

drawable-few : (first count : ℤ) → is_drawable first count ≡ true → count ≤ℤ pos 65536
unfolding is_drawable
drawable-few first count drawable =
    let bounds = and_parts (int_le (pos 0) first) _ drawable in
    let few = and_parts (int_le (pos 0) count) (int_le count (pos 65536)) (bounds.1) in
    at_most count (pos 65536) (few.1)

-- where DrawArrays has no error, at most so many elements are drawn
pub drawn_are_few : (tracked : Tracked) (mode : ℕ) (first count : ℤ) → fault_of tracked (DrawArrays mode first count) ≡ None → count ≤ℤ pos 65536
unfolding fault_of
drawn_are_few tracked mode first count none =
    let mode_passed = first_passed (is_among modes mode) InvalidEnum _ none in
    let passed = first_passed (is_drawable first count) InvalidValue [] (mode_passed.1) in
    drawable-few first count (passed.0)

elements-few : (count : ℤ) → is_element_count count ≡ true → count ≤ℤ pos 65536
unfolding is_element_count
elements-few count counted =
    let few = and_parts (int_le (pos 0) count) (int_le count (pos 65536)) counted in
    at_most count (pos 65536) (few.1)

-- where DrawElements has no error, at most so many elements are drawn
pub elements_are_few : (tracked : Tracked) (mode : ℕ) (count : ℤ) (kind indices : ℕ) → fault_of tracked (DrawElements mode count kind indices) ≡ None → count ≤ℤ pos 65536
unfolding fault_of
elements_are_few tracked mode count kind indices none =
    let mode_passed = first_passed (is_among modes mode) InvalidEnum _ none in
    let kind_passed = first_passed (is_among index_types kind) InvalidEnum _ (mode_passed.1) in
    let passed = first_passed (is_element_count count) InvalidValue [] (kind_passed.1) in
    elements-few count (passed.0)
