-- What the texture units make of a fragment's colour, where it lies elsewhere, and where no unit takes part.
use Rattle.std.proofs.Common.{◌≡◌, ℕ, ℤ, Bool, false, List, Option, Some, None, refl, sym, ap, ◌∙◌}
use Rattle.texture_units.specs.declared.format.Format.{Format}
use Rattle.texture_units.specs.declared.format.Format.TheVariants.{Rgba}
use Rattle.texture_units.specs.declared.environment.EnvMode.{EnvMode}
use Rattle.texture_units.specs.declared.environment.EnvMode.TheVariants.{Modulate}
use Rattle.texture_units.specs.declared.sampling.Sampling.{Sampling}
use Rattle.texture_units.specs.Environment.{combined}
use Rattle.triangle_raster.specs.declared.fragment.Fragment.{Fragment}
use Rattle.triangle_draw.specs.declared.drawing.Drawing.{Drawing}
use Rattle.triangle_draw.specs.Unit.{UnitView}
use Rattle.triangle_draw.specs.Fragments.{IsMultiplier, IsPlain, MultipliesAlone}
use Rattle.triangle_draw.specs.Triangle.{colour_after_unit, colour_of, texel_of, textured_colour}

colour_after_unit-moved : (unit : Option UnitView) (f : Fragment) (x : ℤ) (at : ℕ) (colour : List ℕ) → colour_after_unit unit (record f { x = x }) at colour ≡ colour_after_unit unit f at colour
unfolding texel_of
colour_after_unit-moved None f x at colour = refl
colour_after_unit-moved (Some unit) f x at colour = refl

-- it is the same in another column
pub textured_colour-moved : (drawing : Drawing) (f : Fragment) (x : ℤ) → textured_colour drawing (record f { x = x }) ≡ textured_colour drawing f
unfolding textured_colour colour_of
textured_colour-moved drawing f x =
    ap (colour_after_unit drawing.second_unit (record f { x = x }) 7) (colour_after_unit-moved drawing.first_unit f x 4 (colour_of f))
    ∙ colour_after_unit-moved drawing.second_unit f x 7 (colour_after_unit drawing.first_unit f 4 (colour_of f))

-- it is the fragment's own where no unit takes part
pub textured_colour-plain : (drawing : Drawing) (f : Fragment) → IsPlain drawing → textured_colour drawing f ≡ colour_of f
unfolding textured_colour
textured_colour-plain drawing f plain =
    ap (λ (unit : Option UnitView). colour_after_unit unit f 7 (colour_after_unit drawing.first_unit f 4 (colour_of f))) plain.no_second
    ∙ ap (λ (unit : Option UnitView). colour_after_unit unit f 4 (colour_of f)) plain.no_first

-- a colour that is the fragment's own
pub plain_colour : (drawing : Drawing) (f : Fragment) (colour : List ℕ) → IsPlain drawing → colour ≡ colour_of f → colour ≡ textured_colour drawing f
plain_colour drawing f colour plain is = is ∙ sym (textured_colour-plain drawing f plain)

-- where unit 0 takes part alone it is what that unit makes of the fragment's own
pub textured_colour-alone : (drawing : Drawing) (f : Fragment) (unit : UnitView) → MultipliesAlone drawing unit
    → colour_after_unit (Some unit) f 4 (colour_of f) ≡ textured_colour drawing f
unfolding textured_colour
textured_colour-alone drawing f unit alone =
    sym (
    ap (λ (second : Option UnitView). colour_after_unit second f 7 (colour_after_unit drawing.first_unit f 4 (colour_of f))) alone.no_second
    ∙ ap (λ (first : Option UnitView). colour_after_unit first f 4 (colour_of f)) alone.first
    )

-- how it is read where it isn't read by LINEAR
pub nearest_is : (sampling : Sampling) → sampling.linear ≡ false → record sampling { linear = false } ≡ sampling
nearest_is sampling off = ap (λ (linear : Bool). record sampling { linear = linear }) (sym off)

-- what a unit that multiplies makes of a colour
pub multiplied_is : (unit : UnitView) (colour texel : List ℕ) → IsMultiplier unit
    → combined Modulate Rgba colour texel unit.constant ≡ combined unit.mode unit.texture.format colour texel unit.constant
multiplied_is unit colour texel multiplies =
    ap (λ (mode : EnvMode). combined mode Rgba colour texel unit.constant) (sym multiplies.modulates)
    ∙ ap (λ (format : Format). combined unit.mode format colour texel unit.constant) (sym multiplies.colours)
