use Rattle.std.proofs.Common.{sym, ◌∙◌}
use Rattle.triangle_raster.proofs.Levels.{depth_at-level}
use Rattle.triangle_raster.proofs.shape.Shape.next_depth.Goals as goal

pub returns-then-level : goal.returns-then-level
returns-then-level c =
    c.requires.before.same_depth
    ∙ sym (depth_at-level c.args.self.now c.requires.shape c.requires.before.x c.requires.before.y c.requires.before.sums c.args.sums.now c.requires.before.here c.requires.before.there (c.requires.level c.if-level.true))
