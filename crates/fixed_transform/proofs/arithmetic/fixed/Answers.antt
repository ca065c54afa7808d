use Rattle.std.proofs.Common.{rules, arith, ap, sym, ◌∙◌, ◌≡◌, ◌+ℤ◌, pos, ◌+◌, ◌/◌, w32, w64, ℤ, to_z, of_z}
use Rattle.std.specs.Int.{int_div_euclid, int_rem_euclid}
use Rattle.std.proofs.lemmas.Int.{ints, to_z-of_z}
use Rattle.fixed_transform.specs.Fixed.{clamp_i32, fx}
use Rattle.fixed_transform.proofs.Splits.{quotient_of_four, split_by}
use Rattle.fixed_transform.proofs.arithmetic.fixed.Goals as goal

pub overflow_add-wholes : goal.overflow_add-wholes
overflow_add-wholes c =
    let total : to_z w64 (of_z w64 c.total-wholes.result) ≡ c.total-wholes.result = to_z-of_z w64 c.total-wholes.result (search rules) in
    let carried : to_z w64 (of_z w64 c.from.result) ≡ c.from.result = to_z-of_z w64 c.from.result (search rules) in
    let value = c.from.ensures in
    let near = c.total-wholes.ensures.near.within in
    let one = c.rest.ensures.few in
    let two = c.rest-2.ensures.few in
    let three = c.rest-3.ensures.few in
    let four = c.rest-4.ensures.few in
    omega (arith, ints)

pub returns : goal.returns
unfolding fx
returns c =
    let same = λ (y : ℤ). int_div_euclid y (pos 65536) in
    let left = λ (y : ℤ). int_rem_euclid y (pos 65536) in
    let a = to_z-of_z w64 c.args.a c.ranges.a in
    let b = to_z-of_z w64 c.args.b c.ranges.b in
    let d = to_z-of_z w64 c.args.c c.ranges.c in
    let e = to_z-of_z w64 c.args.d c.ranges.d in
    let sum : int_div_euclid (c.args.a +ℤ c.args.b +ℤ c.args.c +ℤ c.args.d) (pos 65536)
    ≡ (c.whole.result +ℤ c.whole-2.result +ℤ c.whole-3.result +ℤ c.whole-4.result)
    +ℤ pos ((c.rest.result + c.rest-2.result + c.rest-3.result + c.rest-4.result) / 65536) =
    quotient_of_four c.args.a c.args.b c.args.c c.args.d
    c.whole.result c.whole-2.result c.whole-3.result c.whole-4.result
    c.rest.result c.rest-2.result c.rest-3.result c.rest-4.result
    (split_by c.args.a c.whole.result c.rest.result (c.whole.ensures.value ∙ ap same a) (c.rest.ensures.value ∙ ap left a))
    (split_by c.args.b c.whole-2.result c.rest-2.result (c.whole-2.ensures.value ∙ ap same b) (c.rest-2.ensures.value ∙ ap left b))
    (split_by c.args.c c.whole-3.result c.rest-3.result (c.whole-3.ensures.value ∙ ap same d) (c.rest-3.ensures.value ∙ ap left d))
    (split_by c.args.d c.whole-4.result c.rest-4.result (c.whole-4.ensures.value ∙ ap same e) (c.rest-4.ensures.value ∙ ap left e)) in
    let total = to_z-of_z w64 c.total-wholes.result (search rules) in
    let carried = to_z-of_z w64 c.from.result (search rules) in
    let value = c.from.ensures in
    let near = c.total-wholes.ensures.near.within in
    let one = c.rest.ensures.few in
    let two = c.rest-2.ensures.few in
    let three = c.rest-3.ensures.few in
    let four = c.rest-4.ensures.few in
    let whole_1 = to_z-of_z w64 c.whole.result (search rules) in
    let whole_2 = to_z-of_z w64 c.whole-2.result (search rules) in
    let whole_3 = to_z-of_z w64 c.whole-3.result (search rules) in
    let whole_4 = to_z-of_z w64 c.whole-4.result (search rules) in
    let wholes = c.total-wholes.ensures.value in
    let inner : to_z w64 (of_z w64 (to_z w64 (of_z w64 c.total-wholes.result) +ℤ to_z w64 (of_z w64 c.from.result)))
    ≡ (c.whole.result +ℤ c.whole-2.result +ℤ c.whole-3.result +ℤ c.whole-4.result)
    +ℤ pos ((c.rest.result + c.rest-2.result + c.rest-3.result + c.rest-4.result) / 65536) = omega (arith, ints) in
    to_z-of_z w32 c.clamped.result (search rules) ∙ c.clamped.ensures ∙ ap clamp_i32 (inner ∙ sym sum)
