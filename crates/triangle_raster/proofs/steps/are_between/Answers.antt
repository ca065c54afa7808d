use Rattle.std.proofs.Common.{◌≡◌, true, pos, ◌-ℤ◌, ◌<ℤ◌, ◌≤ℤ◌, to_z, of_z, w32, sym, ◌∙◌, rules, lit<}
use Rattle.triangle_raster.specs.Vertex.{corner}
use Rattle.triangle_raster.proofs.Bounds.{kept_32}
use Rattle.triangle_raster.proofs.Wholes.{from_near_kept, positive_kept, to_far_kept}
use Rattle.triangle_raster.proofs.steps.are_between.Goals as goal

pub returns : goal.returns
returns c = λ _.
    let is_same : c.are_same.result ≡ true = search rules in
    let same = c.are_same.ensures.same is_same in
    let w = kept_32 c.requires.one.divisor (lit< tt) in
    let positive : pos 0 <ℤ to_z w32 (of_z w32 (corner c.args.corners.now 0).w) = search rules in
    let first_low : to_z w32 (of_z w32 (pos 0 -ℤ to_z w32 (of_z w32 (corner c.args.corners.now 0).w))) ≤ℤ to_z w32 (of_z w32 (corner c.args.corners.now 0).z) = search rules in
    let first_high : to_z w32 (of_z w32 (corner c.args.corners.now 0).z) ≤ℤ to_z w32 (of_z w32 (corner c.args.corners.now 0).w) = search rules in
    let second_low : to_z w32 (of_z w32 (pos 0 -ℤ to_z w32 (of_z w32 (corner c.args.corners.now 0).w))) ≤ℤ to_z w32 (of_z w32 (corner c.args.corners.now 1).z) = search rules in
    let second_high : to_z w32 (of_z w32 (corner c.args.corners.now 1).z) ≤ℤ to_z w32 (of_z w32 (corner c.args.corners.now 0).w) = search rules in
    let third_low : to_z w32 (of_z w32 (pos 0 -ℤ to_z w32 (of_z w32 (corner c.args.corners.now 0).w))) ≤ℤ to_z w32 (of_z w32 (corner c.args.corners.now 2).z) = search rules in
    let third_high : to_z w32 (of_z w32 (corner c.args.corners.now 2).z) ≤ℤ to_z w32 (of_z w32 (corner c.args.corners.now 0).w) = search rules in
    record {
      some_w = positive_kept c.requires.one.divisor positive;
      second_same = sym w ∙ same.0 ∙ kept_32 c.requires.two.divisor (lit< tt);
      third_same = sym w ∙ same.1 ∙ kept_32 c.requires.three.divisor (lit< tt);
      first_from_near = from_near_kept c.requires.one.divisor c.requires.one.deep first_low;
      first_to_far = to_far_kept c.requires.one.divisor c.requires.one.deep first_high;
      second_from_near = from_near_kept c.requires.one.divisor c.requires.two.deep second_low;
      second_to_far = to_far_kept c.requires.one.divisor c.requires.two.deep second_high;
      third_from_near = from_near_kept c.requires.one.divisor c.requires.three.deep third_low;
      third_to_far = to_far_kept c.requires.one.divisor c.requires.three.deep third_high;
    }
