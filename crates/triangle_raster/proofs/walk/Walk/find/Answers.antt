use Rattle.std.proofs.Common.{arith}
use Rattle.triangle_raster.proofs.Rows.{near_sums}
use Rattle.triangle_raster.proofs.Walks.{column_holds, next_in_frame}
use Rattle.triangle_raster.proofs.walk.Walk.find.Goals as goal

pub next_sums-self-requires-clause-near : goal.next_sums-self-requires-clause-near
next_sums-self-requires-clause-near c =
    near_sums c.args.self.now.shape c.requires.holds.shape_holds _ _ (column_holds c.args.self.now c.requires.holds (omega arith)) c.requires.holds.in_height _
    ((c.requires.holds.next_holds (omega arith)).sums_hold c.requires.sums)

pub next_depth-self-requires-clause-near : goal.next_depth-self-requires-clause-near
next_depth-self-requires-clause-near c =
    near_sums c.args.self.now.shape c.requires.holds.shape_holds _ _ (next_in_frame c.args.self.now c.requires.holds (omega arith)) c.requires.holds.in_height _
    (c.next_sums-self.ensures _ _ ((c.requires.holds.next_holds (omega arith)).sums_hold c.requires.sums))
