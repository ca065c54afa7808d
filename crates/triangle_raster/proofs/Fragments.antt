-- What the code computes at a point is its fragment, and its pixel.
use Rattle.std.proofs.Common.{◌≡◌, ◌≢◌, ℕ, zero, suc, Bool, true, false, ◌&&◌, ℤ, pos, negsuc, neg_ℤ, ◌+ℤ◌, ◌<ℤ◌, ◌≤ℤ◌, List, Option, Some, None, refl, sym, ap, ◌∙◌, arith}
use Rattle.std.specs.Prelude.{int_le, int_lt, if◌then◌else◌}
use Rattle.std.proofs.lemmas.Int.{ints}
use Rattle.triangle_raster.specs.declared.vertex.Vertex.{Vertex}
use Rattle.triangle_raster.specs.declared.vertex.View.{View}
use Rattle.triangle_raster.specs.declared.fragment.Fragment.{Fragment}
use Rattle.triangle_raster.specs.Vertex.{corner}
use Rattle.triangle_raster.specs.Held.{depth_at}
use Rattle.triangle_raster.proofs.Means.{some_weight}
use Rattle.triangle_raster.specs.Pixel.{Weights, delta_of, depth_of, is_covered, is_kept, is_zero, kept_fragment, mean, means, pixel_of, w_at, weighted, weights_of, z_at}

pub all_true : (a b c : Bool) → (a && (b && c)) ≡ true → (a ≡ true) × (b ≡ true) × (c ≡ true)
all_true true true true e = (refl, refl, refl)
all_true true true false e = cc
all_true true false c e = cc
all_true false b c e = cc

-- numbers that were passed and are what they were
pub weighted_kept : (w : Weights) {a b c a' b' c' : ℤ} → a' ≡ a → b' ≡ b → c' ≡ c → weighted w a' b' c' ≡ weighted w a b c
weighted_kept w {a} {b} {c} {a'} {b'} {c'} p q r =
    ap (λ (z : ℤ). weighted w z b' c') p ∙ ap (λ (z : ℤ). weighted w a z c') q ∙ ap (λ (z : ℤ). weighted w a b z) r

pub mean_kept : (w : Weights) {a b c a' b' c' : ℤ} → a' ≡ a → b' ≡ b → c' ≡ c → mean w a' b' c' ≡ mean w a b c
mean_kept w {a} {b} {c} {a'} {b'} {c'} p q r =
    ap (λ (z : ℤ). mean w z b' c') p ∙ ap (λ (z : ℤ). mean w a z c') q ∙ ap (λ (z : ℤ). mean w a b z) r

pub between_from_test : (z w : ℤ) → is_kept z w ≡ true → (pos 0 <ℤ w) × (neg_ℤ w ≤ℤ z) × (z ≤ℤ w)
unfolding is_kept
between_from_test z w e =
    let both = all_true (int_lt (pos 0) w) (int_le (neg_ℤ w) z) (int_le z w) e in
    let first : int_lt (pos 0) w ≡ true = both.0 in
    let second : int_le (neg_ℤ w) z ≡ true = both.1 in
    let third : int_le z w ≡ true = both.2 in
    (omega (arith, ints), omega (arith, ints), omega (arith, ints))

pub test_from_code : (z w : ℤ) {a b c d n : ℤ} → a ≡ w → n ≡ neg_ℤ w → b ≡ z → c ≡ z → d ≡ w → (int_lt (pos 0) a && (int_le n b && int_le c d)) ≡ is_kept z w
unfolding is_kept
test_from_code z w {a} {b} {c} {d} {n} p q r s t =
    ap (λ (k : ℤ). int_lt (pos 0) k && (int_le n b && int_le c d)) p
    ∙ ap (λ (k : ℤ). int_lt (pos 0) w && (int_le k b && int_le c d)) q
    ∙ ap (λ (k : ℤ). int_lt (pos 0) w && (int_le (neg_ℤ w) k && int_le c d)) r
    ∙ ap (λ (k : ℤ). int_lt (pos 0) w && (int_le (neg_ℤ w) z && int_le k d)) s
    ∙ ap (λ (k : ℤ). int_lt (pos 0) w && (int_le (neg_ℤ w) z && int_le z k)) t

module _ (corners : List Vertex) (w : Weights) where
  pub z_as_kept : {r a b c : ℤ} → r ≡ weighted w a b c → a ≡ (corner corners 0).z → b ≡ (corner corners 1).z → c ≡ (corner corners 2).z → r ≡ z_at corners w
  unfolding z_at
  z_as_kept e p q r = e ∙ weighted_kept w p q r

  pub w_as_kept : {r a b c : ℤ} → r ≡ weighted w a b c → a ≡ (corner corners 0).w → b ≡ (corner corners 1).w → c ≡ (corner corners 2).w → r ≡ w_at corners w
  unfolding w_at
  w_as_kept e p q r = e ∙ weighted_kept w p q r

  same_fragment : {fx fy x y : ℤ} {d depth : ℕ} {vs values : List ℤ} → fx ≡ x → fy ≡ y → d ≡ depth → vs ≡ values →
      (let f : Fragment = record { x = fx; y = fy; depth = d; values = vs } in f) ≡ (let f : Fragment = record { x = x; y = y; depth = depth; values = values } in f)
  same_fragment {fx} {fy} {x} {y} {d} {depth} {vs} {values} p q r s =
      ap (λ (k : ℤ). let f : Fragment = record { x = k; y = fy; depth = d; values = vs } in f) p
      ∙ ap (λ (k : ℤ). let f : Fragment = record { x = x; y = k; depth = d; values = vs } in f) q
      ∙ ap (λ (k : ℕ). let f : Fragment = record { x = x; y = y; depth = k; values = vs } in f) r
      ∙ ap (λ (k : List ℤ). let f : Fragment = record { x = x; y = y; depth = depth; values = k } in f) s

  module _ (x y : ℤ) {z v : ℤ} (at_z : z ≡ z_at corners w) (at_w : v ≡ w_at corners w) where
    test_as_kept : is_kept (z_at corners w) (w_at corners w) ≡ is_kept z v
    test_as_kept = sym (ap (λ (k : ℤ). is_kept k v) at_z ∙ ap (λ (k : ℤ). is_kept (z_at corners w) k) at_w)

    depth_as_seen : depth_of z v ≡ depth_of (z_at corners w) (w_at corners w)
    depth_as_seen = ap (λ (k : ℤ). depth_of k v) at_z ∙ ap (λ (k : ℤ). depth_of (z_at corners w) k) at_w

    pub some_fragment : {fx fy : ℤ} {d : ℕ} {vs : List ℤ} → is_kept z v ≡ true → fx ≡ x → fy ≡ y → d ≡ depth_of z v →
        vs ≡ means w (corner corners 0).values (corner corners 1).values (corner corners 2).values →
        Some (let f : Fragment = record { x = fx; y = fy; depth = d; values = vs } in f) ≡ kept_fragment corners w x y
    unfolding kept_fragment
    some_fragment t p q r s =
        ap (λ (f : Fragment). Some f) (same_fragment p q (r ∙ depth_as_seen) s)
        ∙ sym (ap (λ (b : Bool). if b then Some (let f : Fragment = record {
          x = x;
          y = y;
          depth = depth_of (z_at corners w) (w_at corners w);
          values = means w (corner corners 0).values (corner corners 1).values (corner corners 2).values;
        } in f) else None) (test_as_kept ∙ t))

    pub no_fragment : is_kept z v ≡ false → None ≡ kept_fragment corners w x y
    unfolding kept_fragment
    no_fragment t =
        sym (ap (λ (b : Bool). if b then Some (let f : Fragment = record {
          x = x;
          y = y;
          depth = depth_of (z_at corners w) (w_at corners w);
          values = means w (corner corners 0).values (corner corners 1).values (corner corners 2).values;
        } in f) else None) (test_as_kept ∙ t))

some_w_weight : (corners : List Vertex) (w : Weights) → pos 0 ≤ℤ w.one → pos 0 ≤ℤ w.two → pos 0 ≤ℤ w.three → pos 0 <ℤ w_at corners w → pos 0 <ℤ (w.one +ℤ w.two +ℤ w.three)
unfolding w_at
some_w_weight corners w h k l p = some_weight w h k l _ _ _ p

no_depth_parts : (test : Bool) (n : ℕ) → (if test then Some n else None) ≡ None → test ≡ false
no_depth_parts true n e = cc
no_depth_parts false n e = refl

no_depth : (corners : List Vertex) (w : Weights) → depth_at corners w ≡ None → is_kept (z_at corners w) (w_at corners w) ≡ false
unfolding depth_at
no_depth corners w e = no_depth_parts (is_kept (z_at corners w) (w_at corners w)) (depth_of (z_at corners w) (w_at corners w)) e

-- what the code finds of a depth
pub some_depth : (corners : List Vertex) (w : Weights) {z v : ℤ} {d : ℕ} → z ≡ z_at corners w → v ≡ w_at corners w → is_kept z v ≡ true → d ≡ depth_of z v → Some d ≡ depth_at corners w
unfolding depth_at
some_depth corners w {z} {v} {d} e h t k =
    let test : is_kept (z_at corners w) (w_at corners w) ≡ true = sym (ap (λ (u : ℤ). is_kept u v) e ∙ ap (λ (u : ℤ). is_kept (z_at corners w) u) h) ∙ t in
    let same : d ≡ depth_of (z_at corners w) (w_at corners w) = k ∙ ap (λ (u : ℤ). depth_of u v) e ∙ ap (λ (u : ℤ). depth_of (z_at corners w) u) h in
    ap (λ (n : ℕ). Some n) same ∙ sym (ap (λ (b : Bool). if b then Some (depth_of (z_at corners w) (w_at corners w)) else None) test)

pub none_depth : (corners : List Vertex) (w : Weights) {z v : ℤ} → z ≡ z_at corners w → v ≡ w_at corners w → is_kept z v ≡ false → None ≡ depth_at corners w
unfolding depth_at
none_depth corners w {z} {v} e h t =
    let test : is_kept (z_at corners w) (w_at corners w) ≡ false = sym (ap (λ (u : ℤ). is_kept u v) e ∙ ap (λ (u : ℤ). is_kept (z_at corners w) u) h) ∙ t in
    sym (ap (λ (b : Bool). if b then Some (depth_of (z_at corners w) (w_at corners w)) else None) test)

-- a depth that was found, and the fragment there
depth_parts : (test : Bool) (n d : ℕ) → (if test then Some n else None) ≡ Some d → (test ≡ true) × (n ≡ d)
depth_parts true n d e = (refl, cc)
depth_parts false n d e = cc

module _ (corners : List Vertex) (w : Weights) (d : ℕ) (found : depth_at corners w ≡ Some d) where
  pub kept_from_depth : is_kept (z_at corners w) (w_at corners w) ≡ true
  unfolding depth_at
  kept_from_depth = (depth_parts (is_kept (z_at corners w) (w_at corners w)) (depth_of (z_at corners w) (w_at corners w)) d found).0

  pub same_depth : depth_of (z_at corners w) (w_at corners w) ≡ d
  unfolding depth_at
  same_depth = (depth_parts (is_kept (z_at corners w) (w_at corners w)) (depth_of (z_at corners w) (w_at corners w)) d found).1

  pub fragment_from_depth : (x y : ℤ) {fx fy : ℤ} {vs : List ℤ} → fx ≡ x → fy ≡ y → vs ≡ means w (corner corners 0).values (corner corners 1).values (corner corners 2).values →
      Some (let f : Fragment = record { x = fx; y = fy; depth = d; values = vs } in f) ≡ kept_fragment corners w x y
  fragment_from_depth x y p q s = some_fragment corners w x y refl refl kept_from_depth p q (sym same_depth) s

  pub some_weight_from_depth : pos 0 ≤ℤ w.one → pos 0 ≤ℤ w.two → pos 0 ≤ℤ w.three → pos 0 <ℤ (w.one +ℤ w.two +ℤ w.three)
  some_weight_from_depth h k l = some_w_weight corners w h k l (between_from_test _ _ kept_from_depth).0

pub no_fragment_without_depth : (corners : List Vertex) (w : Weights) (x y : ℤ) → depth_at corners w ≡ None → None ≡ kept_fragment corners w x y
no_fragment_without_depth corners w x y e = no_fragment corners w x y refl refl (no_depth corners w e)

-- a place that was passed and is what it was
pub kept_fragment-kept : (corners : List Vertex) (w : Weights) {x y x' y' : ℤ} → x' ≡ x → y' ≡ y → kept_fragment corners w x' y' ≡ kept_fragment corners w x y
kept_fragment-kept corners w {x} {y} {x'} {y'} p q =
    ap (λ (k : ℤ). kept_fragment corners w k y') p ∙ ap (λ (k : ℤ). kept_fragment corners w x k) q

-- a triangle whose corners don't stand on a line
is_zero-other : (z : ℤ) → z ≢ pos 0 → is_zero z ≡ false
is_zero-other (pos zero) h = absurd (h refl)
is_zero-other (pos (suc n)) h = refl
is_zero-other (negsuc n) h = refl

-- a triangle whose corners stand on a line has no pixel
is_zero-same : (z : ℤ) → z ≡ pos 0 → is_zero z ≡ true
is_zero-same z e = ap is_zero e

pub pixel_of-flat : (corners : List Vertex) (view : View) (x y : ℤ) → delta_of corners view ≡ pos 0 → pixel_of corners view x y ≡ None
unfolding pixel_of
pixel_of-flat corners view x y flat =
    ap (λ (b : Bool). if b then None else (if is_covered corners view x y then kept_fragment corners (weights_of corners view x y) x y else None)) (is_zero-same _ flat)

pub pixel_of-kept : {corners corners' : List Vertex} {view view' : View} {x y x' y' : ℤ} → corners' ≡ corners → view' ≡ view → x' ≡ x → y' ≡ y → pixel_of corners' view' x' y' ≡ pixel_of corners view x y
pixel_of-kept {corners} {corners'} {view} {view'} {x} {y} {x'} {y'} p q r s =
    ap (λ (k : List Vertex). pixel_of k view' x' y') p
    ∙ ap (λ (k : View). pixel_of corners k x' y') q
    ∙ ap (λ (k : ℤ). pixel_of corners view k y') r
    ∙ ap (λ (k : ℤ). pixel_of corners view x k) s

module _ (corners : List Vertex) (view : View) (x y : ℤ) (not_flat : delta_of corners view ≢ pos 0) where
  pub pixel_of-covered : is_covered corners view x y ≡ true → pixel_of corners view x y ≡ kept_fragment corners (weights_of corners view x y) x y
  unfolding pixel_of
  pixel_of-covered e =
      ap (λ (b : Bool). if b then None else (if is_covered corners view x y then kept_fragment corners (weights_of corners view x y) x y else None)) (is_zero-other _ not_flat)
      ∙ ap (λ (b : Bool). if b then kept_fragment corners (weights_of corners view x y) x y else None) e

  pub pixel_of-not_covered : is_covered corners view x y ≡ false → pixel_of corners view x y ≡ None
  unfolding pixel_of
  pixel_of-not_covered e =
      ap (λ (b : Bool). if b then None else (if is_covered corners view x y then kept_fragment corners (weights_of corners view x y) x y else None)) (is_zero-other _ not_flat)
      ∙ ap (λ (b : Bool). if b then kept_fragment corners (weights_of corners view x y) x y else None) e

  -- the same from what was computed
  pub pixel_as_kept : {w : Weights} {fx fy : ℤ} {r : Option Fragment} → w ≡ weights_of corners view x y → is_covered corners view x y ≡ true → fx ≡ x → fy ≡ y → r ≡ kept_fragment corners w fx fy → r ≡ pixel_of corners view x y
  pixel_as_kept {w} {fx} {fy} same e p q h =
      h
      ∙ ap (λ (k : ℤ). kept_fragment corners w k fy) p
      ∙ ap (λ (k : ℤ). kept_fragment corners w x k) q
      ∙ ap (λ (u : Weights). kept_fragment corners u x y) same
      ∙ sym (pixel_of-covered e)
