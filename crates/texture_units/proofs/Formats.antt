-- Formats: a texel has one byte to four.
use Rattle.std.proofs.Common.{◌≤◌, arith}
use Rattle.texture_units.specs.declared.format.Format.{Format}
use Rattle.texture_units.specs.declared.format.Format.TheVariants.{Alpha, Luminance, LuminanceAlpha, Rgb, Rgba}
use Rattle.texture_units.specs.Format.{size_of}

pub size_of-few : (f : Format) → size_of f ≤ 4
size_of-few Alpha = omega arith
size_of-few Luminance = omega arith
size_of-few LuminanceAlpha = omega arith
size_of-few Rgb = omega arith
size_of-few Rgba = omega arith

pub size_of-some : (f : Format) → 1 ≤ size_of f
size_of-some Alpha = omega arith
size_of-some Luminance = omega arith
size_of-some LuminanceAlpha = omega arith
size_of-some Rgb = omega arith
size_of-some Rgba = omega arith
