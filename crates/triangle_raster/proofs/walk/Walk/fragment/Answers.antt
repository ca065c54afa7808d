use Rattle.std.proofs.Common.{sym, ap, ◌∙◌}
use Rattle.triangle_raster.specs.Held.{depth_at, weights_here}
use Rattle.triangle_raster.specs.Pixel.{Weights, kept_fragment}
use Rattle.triangle_raster.proofs.Bounds.{kept_column}
use Rattle.triangle_raster.proofs.CarriedWalks.{values_are_means}
use Rattle.triangle_raster.proofs.Fragments.{fragment_from_depth, kept_fragment-kept}
use Rattle.triangle_raster.proofs.Rows.{near_sums}
use Rattle.triangle_raster.proofs.Walks.{column_holds, covered_here, not_negative_here, pixel_here}
use Rattle.triangle_raster.proofs.walk.Walk.fragment.Goals as goal

pub kept_at-requires-clause-sums : goal.kept_at-requires-clause-sums
kept_at-requires-clause-sums c =
    near_sums c.args.self.now.shape c.requires.holds.shape_holds _ _ (column_holds c.args.self.now c.requires.holds c.requires.some) c.requires.holds.in_height _
    ((c.requires.holds.next_holds c.requires.some).sums_hold c.if-self.false)

pub kept_at-requires-clause-not_negative : goal.kept_at-requires-clause-not_negative
kept_at-requires-clause-not_negative c =
    not_negative_here c.args.self.now c.requires.holds c.requires.some ((c.requires.holds.next_holds c.requires.some).sums_hold c.if-self.false)

pub kept_at-requires-clause-kept : goal.kept_at-requires-clause-kept
kept_at-requires-clause-kept c =
    ap (λ (w : Weights). depth_at c.args.self.now.shape.corners w) ((c.requires.holds.next_holds c.requires.some).sums_hold c.if-self.false) ∙ c.requires.kept

pub returns-then-self : goal.returns-then-self
returns-then-self c =
    let r = c.args.self.now in
    let carried = (c.requires.holds.next_holds c.requires.some).carried_at c.if-self.true in
    let rates = c.requires.holds.rates_hold in
    fragment_from_depth r.shape.corners (weights_here r) c.args.depth c.requires.kept r.x r.y
    (kept_column (column_holds r c.requires.holds c.requires.some)) (kept_column c.requires.holds.in_height)
    (values_are_means r.shape c.requires.holds.shape_holds r.rates.moving r.rates.steps (rates.carried_holds c.if-self.true) r.x r.y (covered_here r c.requires.holds c.requires.some)
    rates.ten_values rates.few_moving r.carries carried.values_carried rates.others_same carried.others_carried carried.ten_carried)
    ∙ sym (pixel_here r c.requires.holds c.requires.some)

pub returns-else-self : goal.returns-else-self
returns-else-self c =
    c.kept_at.ensures
    ∙ kept_fragment-kept _ _ (kept_column (column_holds c.args.self.now c.requires.holds c.requires.some)) (kept_column c.requires.holds.in_height)
    ∙ ap (λ (w : Weights). kept_fragment c.args.self.now.shape.corners w c.args.self.now.x c.args.self.now.y) ((c.requires.holds.next_holds c.requires.some).sums_hold c.if-self.false)
    ∙ sym (pixel_here c.args.self.now c.requires.holds c.requires.some)
