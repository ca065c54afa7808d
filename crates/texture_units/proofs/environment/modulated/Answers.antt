use Rattle.std.proofs.Common.{sym, ap, ◌∙◌}
use Rattle.texture_units.specs.declared.format.Format.{Format}
use Rattle.texture_units.specs.declared.environment.EnvMode.TheVariants.{Modulate}
use Rattle.texture_units.specs.Environment.{combined}
use Rattle.texture_units.proofs.environment.modulated.Goals as goal

pub returns-in-Rgba : goal.returns-in-Rgba
returns-in-Rgba c = λ constant.
    c.products.ensures constant ∙ ap (λ (f : Format). combined Modulate f c.args.fragment c.args.texel constant) (sym c.in-Rgba.is)
