use Rattle.std.proofs.Common.{◌≡◌, ◌+◌, ◌-◌, ◌*◌, refl, arith}
use Rattle.fixed_transform.specs.Angle.{half_sine}
use Rattle.fixed_transform.proofs.Angles.{product_at_most, ratio_at_most_one}
use Rattle.fixed_transform.proofs.angle.half_sine.Goals as goal

pub returns-clause-value : goal.returns-clause-value
unfolding half_sine
returns-clause-value c = refl

pub returns-clause-near : goal.returns-clause-near
returns-clause-near c =
    let whole : c.args.angle + (11796480 - c.args.angle) ≡ 11796480 = omega arith in
    ratio_at_most_one (c.args.angle * (11796480 - c.args.angle)) (product_at_most c.args.angle (11796480 - c.args.angle) whole)
