use Rattle.std.proofs.Common.{◌≡◌, true, pos, ◌<ℤ◌, ◌≤ℤ◌, ◌^◌, ℤ, sym, ap, subst, ◌∙◌, to_z, of_z, w64, rules, lit<}
use Rattle.std.specs.Int.{w128}
use Rattle.triangle_raster.specs.Pixel.{Weights, z_at}
use Rattle.triangle_raster.specs.Held.{AreCarriesOf, IsDepthCarry, IsWhole}
use Rattle.triangle_raster.proofs.Bounds.{kept_32, kept_128}
use Rattle.triangle_raster.proofs.Fragments.{z_as_kept}
use Rattle.triangle_raster.proofs.Carries.{divisor_kept, whole_kept}
use Rattle.triangle_raster.proofs.Wholes.{twice_kept}
use Rattle.triangle_raster.proofs.steps.Steps.of_shape.Goals as goal

pub returns : goal.returns
returns c =
    let is_between : c.are_between.result ≡ true = search rules in
    let between = c.are_between.ensures is_between in
    let is_whole : IsWhole c.args.shape.now c.in_ok-whole.whole = c.in_ok-whole.ensures in
    let same_whole = whole_kept is_whole.some is_whole.few in
    let some = c.divisor_of-divisor.ensures.some in
    let few = c.divisor_of-divisor.ensures.few in
    let same_divisor = divisor_kept some few in
    let corners = c.requires.shape.corners_hold in
    let z = kept_128 c.weighted-z.ensures.near (lit< tt)
    ∙ z_as_kept c.args.shape.now.corners _ c.weighted-z.ensures.value (kept_32 corners.one.deep (lit< tt)) (kept_32 corners.two.deep (lit< tt)) (kept_32 corners.three.deep (lit< tt))
    ∙ ap (λ (w : Weights). z_at c.args.shape.now.corners w) c.rises-rises.ensures.value
    in
    record {
      whole_holds = subst (λ (n : ℤ). IsWhole c.args.shape.now n) (sym same_whole) is_whole;
      between = between;
      some_divisor = subst (λ (n : ℤ). pos 0 <ℤ n) (sym same_divisor) some;
      few_divisor = subst (λ (n : ℤ). n ≤ℤ pos (2 ^ 120)) (sym same_divisor) few;
      divisor_holds = same_divisor ∙ twice_kept (to_z w64 (of_z w64 c.in_ok-whole.whole)) c.divisor_of-divisor.ensures.value (kept_32 corners.one.divisor (lit< tt));
      value_steps = subst (λ (w : Weights). AreCarriesOf c.args.shape.now.corners w c.args.moving (to_z w64 (of_z w64 c.in_ok-whole.whole)) c.in_ok-values.values) c.rises-rises.ensures.value c.in_ok-values.ensures;
      depth_step = subst (λ (n : ℤ). IsDepthCarry n (pos 0) (to_z w128 (of_z w128 c.divisor_of-divisor.result)) c.in_ok-depth.depth) z c.in_ok-depth.ensures;
    }
