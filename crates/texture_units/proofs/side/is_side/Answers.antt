use Rattle.std.proofs.Common.{◌∙◌}
use Rattle.texture_units.proofs.Sides.{side_from_test}
use Rattle.texture_units.proofs.side.is_side.Goals as goal

pub returns : goal.returns
returns c = (λ h. side_from_test c.args.number c.is_power.result c.is_power.ensures h, λ side. c.is_power.ensures ∙ side.power)
