use Rattle.std.proofs.Common.{◌≡◌}
use Rattle.triangle_raster.specs.Held.{walk_seen, IsWalk}
use Rattle.triangle_raster.proofs.walk.Walk.seek.Given as goal

-- the columns passed so far had no pixel
abbrev pub invariant-loop-self : goal.invariant-loop-self
invariant-loop-self l = record {
  holds : IsWalk l.self;
  same : walk_seen l.self ≡ walk_seen l.initial.self;
}

abbrev pub decreases-loop-self : goal.decreases-loop-self
decreases-loop-self l = l.self.left
