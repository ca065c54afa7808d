use Rattle.std.proofs.Common.{arith}
use Rattle.std.proofs.lemmas.Int.{ints}
use Rattle.triangle_raster.specs.Vertex.{centre_of}
use Rattle.triangle_raster.proofs.Vectors.{same_vector}
use Rattle.triangle_raster.proofs.edge.Point.of_centre.Goals as goal

pub returns-clause-point : goal.returns-clause-point
unfolding centre_of
returns-clause-point c = same_vector (omega (arith, ints)) (omega (arith, ints)) (omega (arith, ints))
