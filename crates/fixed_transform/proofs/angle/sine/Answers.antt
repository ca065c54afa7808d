use Rattle.std.proofs.Common.{◌≡◌, ℕ, ◌<◌, ◌≤◌, pos, ◌-ℤ◌, neg_ℤ, sym, ap, ◌∙◌, arith, w32, to_z, of_z}
use Rattle.std.proofs.lemmas.Int.{ints, to_z_pos}
use Rattle.fixed_transform.proofs.Angles.{sine-first, sine-second}
use Rattle.fixed_transform.proofs.angle.sine.Goals as goal

pub returns-then-angle-le-HALF_TURN-clause-value : goal.returns-then-angle-le-HALF_TURN-clause-value
returns-then-angle-le-HALF_TURN-clause-value c =
    let within : c.args.angle ≤ 11796480 = omega arith in
    let small : c.half_sine.result < 2147483648 = omega arith in
    to_z_pos w32 c.half_sine.result small ∙ ap pos c.half_sine.ensures.value ∙ sym (sine-first c.args.angle within)

pub returns-else-angle-le-HALF_TURN-clause-value : goal.returns-else-angle-le-HALF_TURN-clause-value
returns-else-angle-le-HALF_TURN-clause-value c =
    let past : 11796480 < c.args.angle = omega arith in
    let same : to_z w32 (of_z w32 (pos 0 -ℤ to_z w32 c.half_sine-else-angle-le-HALF_TURN.result)) ≡ neg_ℤ (pos c.half_sine-else-angle-le-HALF_TURN.result) = omega (arith, ints) in
    same ∙ ap (λ (n : ℕ). neg_ℤ (pos n)) c.half_sine-else-angle-le-HALF_TURN.ensures.value ∙ sym (sine-second c.args.angle past)
