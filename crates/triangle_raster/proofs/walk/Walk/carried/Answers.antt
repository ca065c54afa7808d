use Rattle.std.proofs.Common.{◌≡◌, ◌≤◌, ℕ, pos, Some, unsigned_abs, to_z, of_z, w32, sym, ap, ◌∙◌, arith}
use Rattle.std.proofs.lemmas.Int.{ints}
use Rattle.triangle_raster.specs.Held.{weights_here}
use Rattle.triangle_raster.proofs.Bounds.{kept_column}
use Rattle.triangle_raster.proofs.CarriedWalks.{depth_here, values_are_means}
use Rattle.triangle_raster.proofs.Fragments.{fragment_from_depth}
use Rattle.triangle_raster.proofs.Walks.{column_holds, covered_here, pixel_here}
use Rattle.triangle_raster.proofs.walk.Walk.carried.Goals as goal

pub overflow_cast-result : goal.overflow_cast-result
overflow_cast-result c =
    let r = c.args.self.now in
    let here = (c.requires.holds.next_holds c.requires.some).carried_at c.requires.carried in
    let found = depth_here r.shape c.requires.holds.shape_holds r.rates.moving r.rates.steps (c.requires.holds.rates_hold.carried_holds c.requires.carried) r.x r.y (covered_here r c.requires.holds c.requires.some) here.depth_carried in
    let is : r.depth.quotient ≡ pos found.0 = found.1 in
    let small : found.0 ≤ 65535 = found.2 in
    omega (arith, ints)

pub returns : goal.returns
returns c =
    let r = c.args.self.now in
    let rates = c.requires.holds.rates_hold in
    let here = (c.requires.holds.next_holds c.requires.some).carried_at c.requires.carried in
    let found = depth_here r.shape c.requires.holds.shape_holds r.rates.moving r.rates.steps (rates.carried_holds c.requires.carried) r.x r.y (covered_here r c.requires.holds c.requires.some) here.depth_carried in
    let is : r.depth.quotient ≡ pos found.0 = found.1 in
    let small : found.0 ≤ 65535 = found.2 in
    let same : unsigned_abs (to_z w32 (of_z w32 r.depth.quotient)) ≡ found.0 = omega (arith, ints) in
    let kept = sym (ap (λ (n : ℕ). Some n) same ∙ found.3) in
    record {
      kept = kept;
      pixel = fragment_from_depth r.shape.corners (weights_here r) _ kept r.x r.y
          (kept_column (column_holds r c.requires.holds c.requires.some)) (kept_column c.requires.holds.in_height)
          (values_are_means r.shape c.requires.holds.shape_holds r.rates.moving r.rates.steps (rates.carried_holds c.requires.carried) r.x r.y (covered_here r c.requires.holds c.requires.some)
          rates.ten_values rates.few_moving r.carries here.values_carried rates.others_same here.others_carried here.ten_carried)
          ∙ sym (pixel_here r c.requires.holds c.requires.some);
    }
