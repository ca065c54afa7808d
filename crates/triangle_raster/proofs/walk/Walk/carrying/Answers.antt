use Rattle.std.proofs.Common.{◌≡◌, ◌≤ℤ◌, ◌<◌, ◌≤◌, ◌^◌, ℕ, ℤ, pos, ◌+ℤ◌, ◌<ℤ◌, Some, unsigned_abs, w32, true, sym, ap, subst, ◌∙◌, to_z, of_z, w64, rules, arith, lit<}
use Rattle.std.proofs.lemmas.Int.{ints}
use Rattle.triangle_raster.specs.Pixel.{Weights, is_covered, w_at, z_at}
use Rattle.triangle_raster.specs.Carry.{AreCarries}
use Rattle.triangle_raster.specs.Held.{sum_at}
use Rattle.triangle_raster.proofs.Bounds.{kept_32, kept_128, kept_column}
use Rattle.triangle_raster.proofs.Fragments.{w_as_kept, z_as_kept}
use Rattle.triangle_raster.proofs.Carries.{carries_same, carry_same, divisor_kept, whole_kept}
use Rattle.triangle_raster.proofs.CarriedWalks.{depth_here, depth_number_kept, not_both}
use Rattle.triangle_raster.proofs.Walks.{begun_holds}
use Rattle.triangle_raster.proofs.walk.Walk.carrying.Goals as goal

pub of_sums-requires-clause-some : goal.of_sums-requires-clause-some
of_sums-requires-clause-some c =
    let carried : c.args.rates.now.carried ≡ true = search rules in
    let steps = c.requires.rates.carried_holds carried in
    subst (λ (n : ℤ). pos 0 <ℤ n) (sym (whole_kept steps.whole_holds.some steps.whole_holds.few)) steps.whole_holds.some

pub of_sums-requires-clause-few : goal.of_sums-requires-clause-few
of_sums-requires-clause-few c =
    let carried : c.args.rates.now.carried ≡ true = search rules in
    let steps = c.requires.rates.carried_holds carried in
    subst (λ (n : ℤ). n ≤ℤ pos (2 ^ 62)) (sym (whole_kept steps.whole_holds.some steps.whole_holds.few)) steps.whole_holds.few

pub of_depth-requires-clause-some : goal.of_depth-requires-clause-some
of_depth-requires-clause-some c =
    let carried : c.args.rates.now.carried ≡ true = search rules in
    let steps = c.requires.rates.carried_holds carried in
    subst (λ (n : ℤ). pos 0 <ℤ n) (sym (divisor_kept steps.some_divisor steps.few_divisor)) steps.some_divisor

pub of_depth-requires-clause-few : goal.of_depth-requires-clause-few
of_depth-requires-clause-few c =
    let carried : c.args.rates.now.carried ≡ true = search rules in
    let steps = c.requires.rates.carried_holds carried in
    subst (λ (n : ℤ). n ≤ℤ pos (2 ^ 120)) (sym (divisor_kept steps.some_divisor steps.few_divisor)) steps.few_divisor

pub overflow_cast-result : goal.overflow_cast-result
overflow_cast-result c =
    let corners = c.requires.shape.corners_hold in
    let carried : c.args.rates.now.carried ≡ true = search rules in
    let some : 0 < c.args.columns.left = search rules in
    let steps = c.requires.rates.carried_holds carried in
    let covered = subst (λ (n : ℤ). is_covered c.args.shape.now.corners c.args.shape.now.view n c.args.y ≡ true)
    (let e : c.args.columns.x +ℤ pos 0 ≡ c.args.columns.x = omega (arith, ints) in e) (c.requires.columns.each_covered 0 some)
    in
    let z = kept_128 c.weighted-z.ensures.near (lit< tt)
    ∙ z_as_kept c.args.shape.now.corners _ c.weighted-z.ensures.value (kept_32 corners.one.deep (lit< tt)) (kept_32 corners.two.deep (lit< tt)) (kept_32 corners.three.deep (lit< tt))
    ∙ ap (λ (v : Weights). z_at c.args.shape.now.corners v) c.requires.sums
    in
    let w = kept_128 c.weighted-w.ensures.near (lit< tt)
    ∙ w_as_kept c.args.shape.now.corners _ c.weighted-w.ensures.value (kept_32 corners.one.divisor (lit< tt)) (kept_32 corners.two.divisor (lit< tt)) (kept_32 corners.three.divisor (lit< tt))
    ∙ ap (λ (v : Weights). w_at c.args.shape.now.corners v) c.requires.sums
    in
    let depth = c.in_ok-depth.ensures in
    let carry = carry_same (divisor_kept steps.some_divisor steps.few_divisor) (depth_number_kept z w) depth.depth_carried in
    let found = depth_here c.args.shape.now c.requires.shape c.args.rates.now.moving c.args.rates.now.steps steps c.args.columns.x c.args.y covered carry in
    let is : c.in_ok-depth.depth.quotient ≡ pos found.0 = found.1 in
    let small : found.0 ≤ 65535 = found.2 in
    omega (arith, ints)

pub returns-clause-holds : goal.returns-clause-holds
returns-clause-holds c =
    let corners = c.requires.shape.corners_hold in
    let carried : c.args.rates.now.carried ≡ true = search rules in
    let some : 0 < c.args.columns.left = search rules in
    let steps = c.requires.rates.carried_holds carried in
    let covered = subst (λ (n : ℤ). is_covered c.args.shape.now.corners c.args.shape.now.view n c.args.y ≡ true)
    (let e : c.args.columns.x +ℤ pos 0 ≡ c.args.columns.x = omega (arith, ints) in e) (c.requires.columns.each_covered 0 some)
    in
    let z = kept_128 c.weighted-z.ensures.near (lit< tt)
    ∙ z_as_kept c.args.shape.now.corners _ c.weighted-z.ensures.value (kept_32 corners.one.deep (lit< tt)) (kept_32 corners.two.deep (lit< tt)) (kept_32 corners.three.deep (lit< tt))
    ∙ ap (λ (v : Weights). z_at c.args.shape.now.corners v) c.requires.sums
    in
    let w = kept_128 c.weighted-w.ensures.near (lit< tt)
    ∙ w_as_kept c.args.shape.now.corners _ c.weighted-w.ensures.value (kept_32 corners.one.divisor (lit< tt)) (kept_32 corners.two.divisor (lit< tt)) (kept_32 corners.three.divisor (lit< tt))
    ∙ ap (λ (v : Weights). w_at c.args.shape.now.corners v) c.requires.sums
    in
    let depth = c.in_ok-depth.ensures in
    let carry = carry_same (divisor_kept steps.some_divisor steps.few_divisor) (depth_number_kept z w) depth.depth_carried in
    let found = depth_here c.args.shape.now c.requires.shape c.args.rates.now.moving c.args.rates.now.steps steps c.args.columns.x c.args.y covered carry in
    let is : c.in_ok-depth.depth.quotient ≡ pos found.0 = found.1 in
    let small : found.0 ≤ 65535 = found.2 in
    let same : unsigned_abs (to_z w32 (of_z w32 c.in_ok-depth.depth.quotient)) ≡ found.0 = omega (arith, ints) in
    let values = c.in_ok-carries.ensures in
    let low : pos 0 ≤ℤ c.args.columns.x = c.requires.columns.first_from_zero in
    let width : (c.args.columns.x +ℤ pos c.args.columns.left) ≤ℤ pos 256 = c.requires.columns.end_in_width in
    begun_holds c.args.shape.now c.requires.shape _ c.requires.rates
    c.args.y c.requires.y c.args.columns c.requires.columns _ _ _ _ _ _ (kept_column c.requires.y) (kept_column (low, omega (arith, ints)))
    (λ more. record {
      depth_holds = ap (λ (n : ℕ). Some n) same ∙ found.3;
      sums_hold = λ e. not_both c.args.rates.now.carried carried e;
      carried_at = λ t. record {
        values_carried = carries_same (whole_kept steps.whole_holds.some steps.whole_holds.few)
            (subst (λ (v : Weights). AreCarries (to_z w64 (of_z w64 c.args.rates.now.steps.whole)) c.args.rates.now.moving (sum_at c.args.shape.now.corners v) c.in_ok-carries.carries) c.requires.sums values.carried);
        others_carried = values.others;
        ten_carried = values.ten;
        depth_carried = carry;
      };
    })
