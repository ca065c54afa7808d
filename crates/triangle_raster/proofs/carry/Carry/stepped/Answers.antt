use Rattle.std.proofs.Common.{pos, ◌≤ℤ◌, ◌<ℤ◌, arith}
use Rattle.std.proofs.lemmas.Int.{ints}
use Rattle.triangle_raster.proofs.Carries.{carry_over, carry_stays}
use Rattle.triangle_raster.proofs.carry.Carry.stepped.Goals as goal

pub returns-then-remainder-whole : goal.returns-then-remainder-whole
returns-then-remainder-whole c =
    let low : pos 0 ≤ℤ c.args.self.remainder = c.requires.here.from_zero in
    let high : c.args.self.remainder <ℤ c.args.whole = c.requires.here.below in
    let more : pos 0 ≤ℤ c.args.step.remainder = c.requires.further.from_zero in
    let less : c.args.step.remainder <ℤ c.args.whole = c.requires.further.below in
    record {
      carried = carry_stays c.args.whole _ _ _ _ c.requires.here c.requires.further (omega (arith, ints)) (omega (arith, ints)) (omega (arith, ints));
      near = record { within = omega (arith, ints) };
      left = record { from_zero = omega (arith, ints); below = omega (arith, ints) };
    }

pub returns-else-remainder-whole : goal.returns-else-remainder-whole
returns-else-remainder-whole c =
    let low : pos 0 ≤ℤ c.args.self.remainder = c.requires.here.from_zero in
    let high : c.args.self.remainder <ℤ c.args.whole = c.requires.here.below in
    let more : pos 0 ≤ℤ c.args.step.remainder = c.requires.further.from_zero in
    let less : c.args.step.remainder <ℤ c.args.whole = c.requires.further.below in
    record {
      carried = carry_over c.args.whole _ _ _ _ c.requires.here c.requires.further (omega (arith, ints)) (omega (arith, ints)) (omega (arith, ints));
      near = record { within = omega (arith, ints) };
      left = record { from_zero = omega (arith, ints); below = omega (arith, ints) };
    }
