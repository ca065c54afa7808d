use Rattle.std.proofs.Common.{length, ap, arith}
use Rattle.gl_objects.proofs.TexelBytes.{image-few}
use Rattle.gl_objects.proofs.texture.bytes_of_image.Goals as goal

pub returns-clause-few : goal.returns-clause-few
returns-clause-few c = omega (arith, image-few c.args.image.now c.bytes.ensures.whole, ap length c.bytes.ensures.bytes)
