use Rattle.std.proofs.Common.{◌≡◌, true, false, refl, sym, ap, ◌∙◌, of_z, lit≤, lit<}
use Rattle.std.specs.Int.{w128}
use Rattle.triangle_raster.proofs.Bounds.{kept_128, zero_from_bits}
use Rattle.triangle_raster.proofs.Fragments.{all_true}
use Rattle.triangle_raster.proofs.Shapes.{delta_as_seen, first_edge_as_seen, second_edge_as_seen, third_edge_as_seen, winding_as_seen}
use Rattle.triangle_raster.proofs.shape.Shape.new.Goals as goal

pub returns-then-delta-eq0-clause-flat : goal.returns-then-delta-eq0-clause-flat
returns-then-delta-eq0-clause-flat c =
    let same = delta_as_seen c.args.corners.now c.args.view c.of_corner-first.ensures.point c.of_corner-second.ensures.point c.of_corner-third.ensures.point _ c.between-one.ensures.edge c.at-delta.ensures.value refl in
    (λ _. sym same ∙ zero_from_bits c.at-delta.ensures.at_a_corner (lit≤ tt) c.if-delta-eq0.true, λ _. refl)

pub returns-clause-flat : goal.returns-clause-flat
returns-clause-flat c =
    let same = delta_as_seen c.args.corners.now c.args.view c.of_corner-first.ensures.point c.of_corner-second.ensures.point c.of_corner-third.ensures.point _ c.between-one.ensures.edge c.at-delta.ensures.value refl in
    (λ (e : true ≡ false). cc, λ flat. absurd (c.if-delta-eq0.false (ap (of_z w128) (same ∙ flat))))

pub returns-clause-shape : goal.returns-clause-shape
returns-clause-shape c =
    let same = delta_as_seen c.args.corners.now c.args.view c.of_corner-first.ensures.point c.of_corner-second.ensures.point c.of_corner-third.ensures.point _ c.between-one.ensures.edge c.at-delta.ensures.value refl in
    let kept = kept_128 c.at-delta.ensures.at_a_corner (lit< tt) in
    record {
      corners_hold = c.requires.corners;
      view_holds = c.requires.view;
      not_flat = λ flat. c.if-delta-eq0.false (ap (of_z w128) (same ∙ flat));
      first_edge = first_edge_as_seen c.args.corners.now c.args.view c.of_corner-first.ensures.point c.of_corner-second.ensures.point c.of_corner-third.ensures.point (kept ∙ same) _ _ c.inward-first_edge.ensures.edge c.between-one.ensures.edge;
      second_edge = second_edge_as_seen c.args.corners.now c.args.view c.of_corner-first.ensures.point c.of_corner-second.ensures.point c.of_corner-third.ensures.point (kept ∙ same) _ _ c.inward-second_edge.ensures.edge c.between-two.ensures.edge;
      third_edge = third_edge_as_seen c.args.corners.now c.args.view c.of_corner-first.ensures.point c.of_corner-second.ensures.point c.of_corner-third.ensures.point (kept ∙ same) _ _ c.inward-third_edge.ensures.edge c.between-three.ensures.edge;
      first_near = c.inward-first_edge.ensures.near;
      second_near = c.inward-second_edge.ensures.near;
      third_near = c.inward-third_edge.ensures.near;
      winding = winding_as_seen (kept ∙ same);
      first_small = λ t. c.is_small.ensures (all_true c.is_small.result c.is_small-2.result c.is_small-3.result (sym c.all_of.ensures ∙ t)).0;
      second_small = λ t. c.is_small-2.ensures (all_true c.is_small.result c.is_small-2.result c.is_small-3.result (sym c.all_of.ensures ∙ t)).1;
      third_small = λ t. c.is_small-3.ensures (all_true c.is_small.result c.is_small-2.result c.is_small-3.result (sym c.all_of.ensures ∙ t)).2;
    }
