-- Walks: which columns they have, and what is left after one of them.
use Rattle.std.proofs.Common.{◌≡◌, ℕ, zero, suc, ◌-◌, ◌<◌, true, false, ℤ, pos, ◌+ℤ◌, ◌≤ℤ◌, w32, to_z, of_z, List, [], Option, Some, None, refl, sym, ap, subst, ◌∙◌, arith}
use Rattle.std.specs.Prelude.{IfSome, IsNone, is_some}
use Rattle.std.specs.List.{cons_option}
use Rattle.std.proofs.lemmas.Int.{ints}
use Rattle.triangle_raster.specs.declared.fragment.Fragment.{Fragment}
use Rattle.triangle_raster.specs.declared.fragment.Spot.{Spot}
use Rattle.triangle_raster.specs.declared.shape.Shape.{Shape}
use Rattle.triangle_raster.specs.declared.sums.Sums.{Sums}
use Rattle.triangle_raster.specs.declared.carry.Carries.{Carries}
use Rattle.triangle_raster.specs.declared.carry.LongCarry.{LongCarry}
use Rattle.triangle_raster.specs.declared.columns.Columns.{Columns}
use Rattle.triangle_raster.specs.declared.walk.Walk.{Walk}
use Rattle.triangle_raster.specs.declared.rates.Rates.{Rates}
use Rattle.triangle_raster.specs.Vertex.{IsFromTo, corner}
use Rattle.triangle_raster.specs.Pixel.{Weights, is_covered, kept_fragment, means, pixel_of}
use Rattle.triangle_raster.specs.Row.{first, first_spot, numbers_from, pixels_at, rest}
use Rattle.triangle_raster.specs.Held.{depth_at, spot_at, walk_seen, weights_here, AreColumns, AreNotNegative, AreSumsAt, AreRates, IsDepthBefore, IsReadied, IsReadyAt, IsShape, IsWalk}
use Rattle.triangle_raster.proofs.Fragments.{fragment_from_depth, no_fragment_without_depth, pixel_of-covered}
use Rattle.triangle_raster.proofs.Ranges.{covered_not_negative}
use Rattle.triangle_raster.proofs.Rows.{pixels_at-kept}

-- a walk that begins in a column
abbrev pub begun : Shape → Rates → ℤ → ℤ → ℕ → Sums → Carries → LongCarry → Option ℕ → Walk
begun s rates y x left sums carries depth found = record { shape = s; rates = rates; y = y; x = x; left = left; sums = sums; carries = carries; depth = depth; found = found }

module _ (s : Shape) (shape : IsShape s) (rates : Rates) (rates_hold : AreRates s rates) (y : ℤ) (height : IsFromTo (pos 0) (pos 256) y) (columns : Columns) (are : AreColumns s y columns) (sums : Sums) (carries : Carries) (depth : LongCarry) (found : Option ℕ) where
  pub begun_holds : (y' x' : ℤ) → y' ≡ y → x' ≡ columns.x → (0 < columns.left → IsReadyAt (begun s rates y columns.x columns.left sums carries depth found) columns.x) →
      IsWalk (begun s rates y' x' columns.left sums carries depth found)
  begun_holds y' x' at_y at_x ready =
      subst (λ (z : ℤ). IsWalk (begun s rates z x' columns.left sums carries depth found)) (sym at_y)
      (subst (λ (z : ℤ). IsWalk (begun s rates y z columns.left sums carries depth found)) (sym at_x)
      (record {
        shape_holds = shape;
        in_height = height;
        from_zero = are.first_from_zero;
        in_width = are.end_in_width;
        rates_hold = rates_hold;
        next_holds = ready;
        all_covered = are.each_covered;
      }))

-- ---- the column that is next
-- a walk after one column
abbrev pub moved : Walk → ℤ → ℕ → Walk
moved w x left = begun w.shape w.rates w.y x left w.sums w.carries w.depth w.found

-- what a walk holds after the next column
abbrev pub tail : Walk → List Fragment
tail r = pixels_at r.shape.corners r.shape.view r.y (numbers_from (r.x +ℤ pos 1) (r.left - 1))

ready_moved : (w : Walk) (x x' : ℤ) (left : ℕ) → x' ≡ x → IsReadyAt w x → IsReadyAt (moved w x' left) x'
ready_moved w x x' left e ready =
    subst (λ (z : ℤ). IsReadyAt (moved w x' left) z) (sym e)
    (record {
      depth_holds = ready.depth_holds;
      sums_hold = ready.sums_hold;
      carried_at = λ t.
          let carried = ready.carried_at t in
          record { values_carried = carried.values_carried; others_carried = carried.others_carried; ten_carried = carried.ten_carried; depth_carried = carried.depth_carried };
    })

module _ (r : Walk) (holds : IsWalk r) (some : 0 < r.left) where
  pub column_holds : IsFromTo (pos 0) (pos 256) r.x
  column_holds = let width : (r.x +ℤ pos r.left) ≤ℤ pos 256 = holds.in_width in (holds.from_zero, omega (arith, ints))

  pub next_in_frame : IsFromTo (pos 0) (pos 256) (r.x +ℤ pos 1)
  next_in_frame = let width : (r.x +ℤ pos r.left) ≤ℤ pos 256 = holds.in_width in let low : pos 0 ≤ℤ r.x = holds.from_zero in (omega (arith, ints), omega (arith, ints))

  pub next_column : {x : ℤ} → x ≡ r.x → to_z w32 (of_z w32 (to_z w32 (of_z w32 x) +ℤ pos 1)) ≡ r.x +ℤ pos 1
  next_column {x} e = let within = column_holds in let low : pos 0 ≤ℤ r.x = within.0 in let high : r.x ≤ℤ pos 256 = within.1 in omega (arith, ints)

  pub moved_holds : (w : Walk) → IsReadied r w → (x : ℤ) (left : ℕ) → x ≡ r.x +ℤ pos 1 → left ≡ r.left - 1 → IsWalk (moved w x left)
  moved_holds w is x left e h = record {
    shape_holds = subst IsShape (sym is.same_shape) holds.shape_holds;
    in_height = subst (λ (z : ℤ). IsFromTo (pos 0) (pos 256) z) (sym is.same_y) holds.in_height;
    from_zero = let low : pos 0 ≤ℤ r.x = holds.from_zero in omega (arith, ints);
    in_width = let width : (r.x +ℤ pos r.left) ≤ℤ pos 256 = holds.in_width in omega (arith, ints);
    rates_hold = subst (λ (s : Shape). AreRates s w.rates) (sym is.same_shape) (subst (λ (t : Rates). AreRates r.shape t) (sym is.same_rates) holds.rates_hold);
    next_holds = λ more. ready_moved w (r.x +ℤ pos 1) x left e (is.ready (omega arith));
    all_covered = λ k below.
        subst (λ (s : Shape). is_covered s.corners s.view (x +ℤ pos k) w.y ≡ true) (sym is.same_shape)
        (subst (λ (z : ℤ). is_covered r.shape.corners r.shape.view (x +ℤ pos k) z ≡ true) (sym is.same_y)
        (subst (λ (z : ℤ). is_covered r.shape.corners r.shape.view z r.y ≡ true) (omega (arith, ints)) (holds.all_covered (suc k) (omega arith))));
  }

  pub covered_here : is_covered r.shape.corners r.shape.view r.x r.y ≡ true
  covered_here = subst (λ (z : ℤ). is_covered r.shape.corners r.shape.view z r.y ≡ true) (omega (arith, ints)) (holds.all_covered 0 some)

  pub not_negative_here : AreSumsAt r.shape r.x r.y r.sums → AreNotNegative r.sums
  not_negative_here here =
      let none = covered_not_negative r.shape.corners r.shape.view r.x r.y covered_here in
      record {
        from_one = subst (λ (w : Weights). pos 0 ≤ℤ w.one) (sym here) none.from_one;
        from_two = subst (λ (w : Weights). pos 0 ≤ℤ w.two) (sym here) none.from_two;
        from_three = subst (λ (w : Weights). pos 0 ≤ℤ w.three) (sym here) none.from_three;
      }

  pub depth_before : (next : Sums) → AreSumsAt r.shape r.x r.y r.sums → AreSumsAt r.shape (r.x +ℤ pos 1) r.y next → IsDepthBefore r.shape r.found next
  depth_before next here same = record {
    x = r.x;
    y = r.y;
    sums = r.sums;
    here = here;
    there = same;
    same_depth = (holds.next_holds some).depth_holds ∙ ap (λ (w : Weights). depth_at r.shape.corners w) (sym here);
  }

  split_seen : (n : ℕ) → n ≡ r.left → pixels_at r.shape.corners r.shape.view r.y (numbers_from r.x n) ≡ cons_option (pixel_of r.shape.corners r.shape.view r.x r.y) (tail r)
  split_seen zero e = absurd (omega arith)
  split_seen (suc n) e =
      let same : r.left - 1 ≡ n = omega arith in
      ap (λ (fs : List Fragment). cons_option (pixel_of r.shape.corners r.shape.view r.x r.y) fs) (sym (pixels_at-kept r.shape.corners r.shape.view refl refl same))

  pub walk_splits : walk_seen r ≡ cons_option (pixel_of r.shape.corners r.shape.view r.x r.y) (tail r)
  walk_splits = split_seen r.left refl

  pub walk_is : (w : Walk) → IsReadied r w → (x : ℤ) (left : ℕ) → x ≡ r.x +ℤ pos 1 → left ≡ r.left - 1 → walk_seen r ≡ cons_option (pixel_of r.shape.corners r.shape.view r.x r.y) (walk_seen (moved w x left))
  walk_is w is x left e h =
      walk_splits
      ∙ ap (λ (fs : List Fragment). cons_option (pixel_of r.shape.corners r.shape.view r.x r.y) fs)
      (sym (ap (λ (s : Shape). pixels_at s.corners s.view w.y (numbers_from x left)) is.same_shape ∙ pixels_at-kept r.shape.corners r.shape.view is.same_y e h))

  -- the pixel here is its fragment by the sums
  pub pixel_here : pixel_of r.shape.corners r.shape.view r.x r.y ≡ kept_fragment r.shape.corners (weights_here r) r.x r.y
  pixel_here = pixel_of-covered r.shape.corners r.shape.view r.x r.y holds.shape_holds.not_flat covered_here

  module _ (d : ℕ) (found : depth_at r.shape.corners (weights_here r) ≡ Some d) where
    pub walk_begins : walk_seen r ≡ cons_option (Some (let f : Fragment = record {
      x = r.x;
      y = r.y;
      depth = d;
      values = means (weights_here r) (corner r.shape.corners 0).values (corner r.shape.corners 1).values (corner r.shape.corners 2).values;
    } in f)) (tail r)
    walk_begins =
        walk_splits
        ∙ ap (λ (o : Option Fragment). cons_option o (tail r))
        (pixel_here ∙ sym (fragment_from_depth r.shape.corners (weights_here r) d found r.x r.y refl refl refl))

    pub first_spot_here : {list : List Fragment} {x y : ℤ} → walk_seen r ≡ list → x ≡ r.x → y ≡ r.y → Some (let s : Spot = record { x = x; y = y; depth = d } in s) ≡ first_spot list
    first_spot_here {list} {x} {y} e p q =
        ap (λ (z : ℤ). Some (let s : Spot = record { x = z; y = y; depth = d } in s)) p
        ∙ ap (λ (z : ℤ). Some (let s : Spot = record { x = r.x; y = z; depth = d } in s)) q
        ∙ sym (ap first_spot (sym e ∙ walk_begins))

    -- what is left once this column is left behind
    pub rest_here : {list left : List Fragment} → walk_seen r ≡ list → walk_seen r ≡ cons_option (pixel_of r.shape.corners r.shape.view r.x r.y) left → left ≡ rest list
    rest_here {list} {left} e h =
        sym
        (ap rest
        (sym e ∙ h
        ∙ ap (λ (o : Option Fragment). cons_option o left)
        (pixel_here ∙ sym (fragment_from_depth r.shape.corners (weights_here r) d found r.x r.y refl refl refl))))

    pub first_here : {list : List Fragment} {f : Fragment} → walk_seen r ≡ list → Some f ≡ pixel_of r.shape.corners r.shape.view r.x r.y → Some f ≡ first list
    first_here {list} {f} e h =
        sym
        (ap first
        (sym e ∙ walk_splits
        ∙ ap (λ (o : Option Fragment). cons_option o (tail r)) (sym h)))

  -- a column without a depth has no pixel
  pub passed_by : {list : List Fragment} → depth_at r.shape.corners (weights_here r) ≡ None → walk_seen r ≡ cons_option (pixel_of r.shape.corners r.shape.view r.x r.y) list → list ≡ walk_seen r
  passed_by {list} none e =
      sym
      (e
      ∙ ap (λ (o : Option Fragment). cons_option o list)
      (pixel_here ∙ sym (no_fragment_without_depth r.shape.corners (weights_here r) r.x r.y none)))

pub walk_done : (r : Walk) → r.left ≡ 0 → walk_seen r ≡ []
walk_done r e = ap (λ (n : ℕ). pixels_at r.shape.corners r.shape.view r.y (numbers_from r.x n)) e

-- a depth that is known
pub found_here : {A : Type 0} (found depth : Option ℕ) → A → found ≡ depth → IfSome found (λ d. A × (depth ≡ Some d))
found_here (Some d) depth a e = (a, sym e)
found_here None depth a e = tt

pub known_depth : (found : Option ℕ) {A : Type 0} → is_some found ≡ true → IsNone found → A
known_depth (Some d) t e = cc
known_depth None t e = cc

-- ---- what a walk that went to its next fragment found
module _ (r : Walk) (holds : IsWalk r) {list : List Fragment} (seen : walk_seen r ≡ list) where
  pub look_is : (found : Option ℕ) {x y : ℤ} → (IsNone found → walk_seen r ≡ []) → IfSome found (λ d. (0 < r.left) × (depth_at r.shape.corners (weights_here r) ≡ Some d)) →
      x ≡ r.x → y ≡ r.y → spot_at x y found ≡ first_spot list
  look_is (Some d) none some p q = first_spot_here r holds some.0 d some.1 seen p q
  look_is None none some p q = sym (ap first_spot (sym seen ∙ none refl))

  pub skip_is : (found : Option ℕ) {left : List Fragment} → is_some found ≡ true → IfSome found (λ d. (0 < r.left) × (depth_at r.shape.corners (weights_here r) ≡ Some d)) →
      walk_seen r ≡ cons_option (pixel_of r.shape.corners r.shape.view r.x r.y) left → left ≡ rest list
  skip_is (Some d) t some e = rest_here r holds some.0 d some.1 seen e
  skip_is None t some e = cc

  pub skip_none : (found : Option ℕ) → is_some found ≡ false → (IsNone found → walk_seen r ≡ []) → walk_seen r ≡ rest list
  skip_none (Some d) t none = cc
  skip_none None t none = none refl ∙ sym (ap rest (sym seen ∙ none refl))

  pub none_first : walk_seen r ≡ [] → None ≡ first list
  none_first e = sym (ap first (sym seen ∙ e))

  pub none_rest : walk_seen r ≡ [] → walk_seen r ≡ rest list
  none_rest e = e ∙ sym (ap rest (sym seen ∙ e))

pub left_if_some : (left : ℕ) (depth found : Option ℕ) → is_some found ≡ true → IfSome found (λ d. (0 < left) × (depth ≡ Some d)) → 0 < left
left_if_some left depth (Some d) t some = some.0
left_if_some left depth None t some = cc

pub none_from_test : (found : Option ℕ) → is_some found ≡ false → found ≡ None
none_from_test (Some d) e = cc
none_from_test None e = refl
