-- eight hexadecimal digits fit
use Rattle.std.proofs.Common.{ℕ, ◌^◌, ◌<◌, ◌≤◌, arith, lit<}
use Rattle.std.proofs.Math.Nat.{pow-le-pow_right}
use Rattle.script_reader.proofs.number.hexadecimal_number.Goals as goal

less_digits : (number i n : ℕ) → i ≤ n → number < 16 ^ i → number < 16 ^ n
less_digits number i n few small = let more : 16 ^ i ≤ 16 ^ n = pow-le-pow_right (lit< tt) few in omega arith

pub overflow_mul-number : goal.overflow_mul-number
overflow_mul-number c =
    let small = less_digits c.loop-digit.number c.loop-digit.digit-index 7 (omega (arith, c.requires.few)) (c.loop-digit.invariant.1) in grind arith

pub overflow_add-number : goal.overflow_add-number
overflow_add-number c =
    let small = less_digits c.loop-digit.number c.loop-digit.digit-index 7 (omega (arith, c.requires.few)) (c.loop-digit.invariant.1) in grind (arith, c.digit_value.ensures.small)

pub returns-clause-small : goal.returns-clause-small
returns-clause-small c = less_digits c.loop-digit.number c.loop-digit.digit-index 8 (omega arith) (c.loop-digit.invariant.1)
