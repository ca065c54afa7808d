-- A texture unit that takes part in a draw, as contracts see it. What it makes of a fragment's colour stands in Triangle.antt.
use Rattle.std.specs.Prelude.{ℕ, List}
use Rattle.texture_units.specs.declared.environment.EnvMode.{EnvMode}
use Rattle.texture_units.specs.declared.sampling.Sampling.{Sampling}
use Rattle.texture_units.specs.Texture.{TextureView}

-- what a unit reads, how it is read, what a texel makes of a colour, and the environment's colour: red, green, blue and alpha, a byte each; section 3.7.12, that a unit which is off is none own
pub record UnitView : Type 0 where
  pub texture : TextureView
  pub sampling : Sampling
  pub mode : EnvMode
  pub constant : List ℕ
