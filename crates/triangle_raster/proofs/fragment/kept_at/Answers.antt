use Rattle.std.proofs.Common.{w32}
use Rattle.std.proofs.lemmas.Int.{to_z-of_z}
use Rattle.triangle_raster.specs.Held.{sums_seen}
use Rattle.triangle_raster.proofs.Fragments.{fragment_from_depth, some_weight_from_depth}
use Rattle.triangle_raster.proofs.fragment.kept_at.Goals as goal

pub values-requires-clause-some : goal.values-requires-clause-some
values-requires-clause-some c =
    some_weight_from_depth c.args.corners.now (sums_seen c.args.sums.now) c.args.depth c.requires.kept
    c.requires.not_negative.from_one c.requires.not_negative.from_two c.requires.not_negative.from_three

pub returns : goal.returns
returns c =
    fragment_from_depth c.args.corners.now (sums_seen c.args.sums.now) c.args.depth c.requires.kept c.args.x c.args.y
    (to_z-of_z w32 c.args.x c.ranges.x) (to_z-of_z w32 c.args.y c.ranges.y) c.values.ensures
