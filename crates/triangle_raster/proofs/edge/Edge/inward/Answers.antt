use Rattle.std.proofs.Common.{arith, sym, ◌∙◌}
use Rattle.std.proofs.lemmas.Int.{ints}
use Rattle.triangle_raster.specs.Vertex.{turned}
use Rattle.triangle_raster.proofs.Vectors.{same_vector}
use Rattle.triangle_raster.proofs.Edges.{inward-negative, inward-other}
use Rattle.triangle_raster.proofs.edge.Edge.inward.Goals as goal

pub returns-then-delta-lt0-clause-edge : goal.returns-then-delta-lt0-clause-edge
unfolding turned
returns-then-delta-lt0-clause-edge c =
    same_vector (omega (arith, ints)) (omega (arith, ints)) (omega (arith, ints)) ∙ sym (inward-negative c.args.delta _ (omega (arith, ints)))

pub returns-else-delta-lt0-clause-edge : goal.returns-else-delta-lt0-clause-edge
returns-else-delta-lt0-clause-edge c = sym (inward-other c.args.delta _ (omega (arith, ints)))
