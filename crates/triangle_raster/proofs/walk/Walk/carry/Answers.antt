use Rattle.std.proofs.Common.{◌≡◌, ◌≤◌, ℕ, pos, ◌+ℤ◌, Some, unsigned_abs, to_z, of_z, w32, refl, sym, ap, ◌∙◌, arith}
use Rattle.std.proofs.lemmas.Int.{ints}
use Rattle.triangle_raster.proofs.Carries.{carries_same, carry_same, counted_same, divisor_kept, left_same, whole_kept}
use Rattle.triangle_raster.proofs.CarriedWalks.{carries_next, depth_here, depth_next, not_both, values_near}
use Rattle.triangle_raster.proofs.Walks.{covered_here}
use Rattle.triangle_raster.proofs.walk.Walk.carry.Goals as goal

pub step-requires-clause-here : goal.step-requires-clause-here
step-requires-clause-here c = λ k below.
    let steps = c.requires.holds.rates_hold.carried_holds c.requires.carried in
    let here = (c.requires.holds.next_holds (omega arith)).carried_at c.requires.carried in
    left_same (whole_kept steps.whole_holds.some steps.whole_holds.few) refl (here.values_carried.each k (omega arith)).left

pub step-requires-clause-further : goal.step-requires-clause-further
step-requires-clause-further c = λ k below.
    let steps = c.requires.holds.rates_hold.carried_holds c.requires.carried in
    left_same (whole_kept steps.whole_holds.some steps.whole_holds.few) refl (steps.value_steps.carried.each k (omega arith)).left

pub step-requires-clause-near : goal.step-requires-clause-near
step-requires-clause-near c = λ k below.
    let r = c.args.self.now in
    let rates = c.requires.holds.rates_hold in
    let here = (c.requires.holds.next_holds (omega arith)).carried_at c.requires.carried in
    values_near r.shape c.requires.holds.shape_holds r.rates.moving r.rates.steps (rates.carried_holds c.requires.carried) r.x r.y (covered_here r c.requires.holds (omega arith))
    rates.ten_values rates.few_moving r.carries here.values_carried k (omega arith)

pub step-requires-clause-slow : goal.step-requires-clause-slow
step-requires-clause-slow c = λ k below. (c.requires.holds.rates_hold.carried_holds c.requires.carried).value_steps.slow k (omega arith)

pub stepped-self-requires-clause-here : goal.stepped-self-requires-clause-here
stepped-self-requires-clause-here c =
    let steps = c.requires.holds.rates_hold.carried_holds c.requires.carried in
    let here = (c.requires.holds.next_holds (omega arith)).carried_at c.requires.carried in
    left_same (divisor_kept steps.some_divisor steps.few_divisor) refl here.depth_carried.left

pub stepped-self-requires-clause-further : goal.stepped-self-requires-clause-further
stepped-self-requires-clause-further c =
    let steps = c.requires.holds.rates_hold.carried_holds c.requires.carried in
    left_same (divisor_kept steps.some_divisor steps.few_divisor) refl steps.depth_step.depth_carried.left

pub stepped-self-requires-clause-near : goal.stepped-self-requires-clause-near
stepped-self-requires-clause-near c =
    let r = c.args.self.now in
    let here = (c.requires.holds.next_holds (omega arith)).carried_at c.requires.carried in
    let found = depth_here r.shape c.requires.holds.shape_holds r.rates.moving r.rates.steps (c.requires.holds.rates_hold.carried_holds c.requires.carried) r.x r.y (covered_here r c.requires.holds (omega arith)) here.depth_carried in
    let is : r.depth.quotient ≡ pos found.0 = found.1 in
    let small : found.0 ≤ 65535 = found.2 in
    record { within = omega (arith, ints) }

pub overflow_cast-self : goal.overflow_cast-self
overflow_cast-self c =
    let r = c.args.self.now in
    let shape = c.requires.holds.shape_holds in
    let steps = c.requires.holds.rates_hold.carried_holds c.requires.carried in
    let here = (c.requires.holds.next_holds (omega arith)).carried_at c.requires.carried in
    let divisor = divisor_kept steps.some_divisor steps.few_divisor in
    let carry = carry_same divisor (depth_next r.shape shape r.rates.moving r.rates.steps steps r.x r.y)
    (c.stepped-self.ensures.carried _ _ (carry_same (sym divisor) refl here.depth_carried) (carry_same (sym divisor) refl steps.depth_step.depth_carried))
    in
    let found = depth_here r.shape shape r.rates.moving r.rates.steps steps (r.x +ℤ pos 1) r.y (c.requires.holds.all_covered 1 c.requires.more) carry in
    let is : c.stepped-self.result.quotient ≡ pos found.0 = found.1 in
    let small : found.0 ≤ 65535 = found.2 in
    omega (arith, ints)

pub returns : goal.returns
returns c =
    let r = c.args.self.now in
    let shape = c.requires.holds.shape_holds in
    let steps = c.requires.holds.rates_hold.carried_holds c.requires.carried in
    let here = (c.requires.holds.next_holds (omega arith)).carried_at c.requires.carried in
    let divisor = divisor_kept steps.some_divisor steps.few_divisor in
    let carry = carry_same divisor (depth_next r.shape shape r.rates.moving r.rates.steps steps r.x r.y)
    (c.stepped-self.ensures.carried _ _ (carry_same (sym divisor) refl here.depth_carried) (carry_same (sym divisor) refl steps.depth_step.depth_carried))
    in
    let found = depth_here r.shape shape r.rates.moving r.rates.steps steps (r.x +ℤ pos 1) r.y (c.requires.holds.all_covered 1 c.requires.more) carry in
    let is : c.stepped-self.result.quotient ≡ pos found.0 = found.1 in
    let small : found.0 ≤ 65535 = found.2 in
    let whole = whole_kept steps.whole_holds.some steps.whole_holds.few in
    let same : unsigned_abs (to_z w32 (of_z w32 c.stepped-self.result.quotient)) ≡ found.0 = omega (arith, ints) in
    record {
      same_shape = refl;
      same_rates = refl;
      same_y = refl;
      same_x = refl;
      same_left = refl;
      ready = λ more. record {
        depth_holds = ap (λ (n : ℕ). Some n) same ∙ found.3;
        sums_hold = λ e. not_both r.rates.carried c.requires.carried e;
        carried_at = λ t. record {
          values_carried = carries_next r.shape shape r.x r.y r.rates.steps.whole r.rates.moving c.step.new.self
              (carries_same whole (counted_same c.requires.moving
              (c.step.ensures.carried _ _ (counted_same (sym c.requires.moving) (carries_same (sym whole) here.values_carried)) (counted_same (sym c.requires.moving) (carries_same (sym whole) steps.value_steps.carried)))));
          others_carried = λ k from. c.step.ensures.others k (omega arith) ∙ here.others_carried k from;
          ten_carried = c.step.ensures.ten;
          depth_carried = carry;
        };
      };
    }
