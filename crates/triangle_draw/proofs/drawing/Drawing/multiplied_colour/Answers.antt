use Rattle.std.proofs.Common.{Some, ap, ◌∙◌}
use Rattle.triangle_draw.specs.Triangle.{colour_after_unit}
use Rattle.triangle_draw.proofs.Texturing.{textured_colour-alone}
use Rattle.triangle_draw.proofs.drawing.Drawing.multiplied_colour.Goals as goal

pub returns : goal.returns
returns c =
    c.multiplied.ensures
    ∙ ap (colour_after_unit (Some c.args.unit.now) c.args.fragment.now 4) c.colour_of-plain.ensures
    ∙ textured_colour-alone c.args.self.now c.args.fragment.now c.args.unit.now c.requires.alone
