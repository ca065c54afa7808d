-- Means by weight stay within the bounds of what they are means of, and depths within theirs.
use Rattle.std.proofs.Common.{◌≡◌, ℕ, suc, ◌+◌, ◌*◌, ◌/◌, ◌<◌, ◌≤◌, ◌^◌, ℤ, pos, negsuc, ◌+ℤ◌, ◌*ℤ◌, neg_ℤ, ◌<ℤ◌, ◌≤ℤ◌, unsigned_abs, to_z, of_z, w32, w64, List, [], ◌∷◌, length, get_or, refl, sym, subst, ap, ◌∙◌, arith}
use Rattle.std.specs.Int.{int_div_euclid, w128}
use Rattle.std.proofs.lemmas.Int.{ints, by_lt_z}
use Rattle.std.proofs.lemmas.Nat.{div_below}
use Rattle.triangle_raster.specs.Vertex.{IsWithin}
use Rattle.triangle_raster.specs.Pixel.{Weights, depth_of, mean, means, weighted}
use Rattle.triangle_raster.proofs.Bounds.{within_product, within_same}

-- a quotient that is rounded down lies within the bound of the dividend over the divisor
pub quotient_within : (m : ℕ) (s t : ℤ) → pos 0 <ℤ t → IsWithin (m * unsigned_abs t) s → IsWithin m (int_div_euclid s t)
quotient_within m (pos s) (pos t) h p =
    let bound : s ≤ m * t = p.within in
    let some : 0 < t = omega (arith, ints) in
    let low : s / t < m + 1 = div_below s t (m + 1) some (omega arith) in
    record { within = omega arith }
quotient_within m (negsuc s) (pos t) h p =
    let bound : suc s ≤ m * t = p.within in
    let some : 0 < t = omega (arith, ints) in
    let low : s / t < m = div_below s t m some (omega arith) in
    record { within = omega arith }
quotient_within m (pos s) (negsuc t) h p = absurd (omega (arith, ints))
quotient_within m (negsuc s) (negsuc t) h p = absurd (omega (arith, ints))

-- sums by weights of which none is below zero
module _ (w : Weights) (h : pos 0 ≤ℤ w.one) (k : pos 0 ≤ℤ w.two) (l : pos 0 ≤ℤ w.three) where
  -- a weighted sum lies within the bound of its numbers times the whole weight
  pub weighted_within : (m : ℕ) (a b c : ℤ) → IsWithin m a → IsWithin m b → IsWithin m c → IsWithin (m * unsigned_abs (w.one +ℤ w.two +ℤ w.three)) (weighted w a b c)
  unfolding weighted
  weighted_within m a b c p q r =
      let own_one : IsWithin (unsigned_abs w.one) w.one = record { within = omega arith } in
      let own_two : IsWithin (unsigned_abs w.two) w.two = record { within = omega arith } in
      let own_three : IsWithin (unsigned_abs w.three) w.three = record { within = omega arith } in
      let first : IsWithin (unsigned_abs w.one * m) (w.one *ℤ a) = within_product own_one p in
      let second : IsWithin (unsigned_abs w.two * m) (w.two *ℤ b) = within_product own_two q in
      let third : IsWithin (unsigned_abs w.three * m) (w.three *ℤ c) = within_product own_three r in
      let whole : unsigned_abs (w.one +ℤ w.two +ℤ w.three) ≡ unsigned_abs w.one + unsigned_abs w.two + unsigned_abs w.three = omega (arith, ints) in
      let spread : m * unsigned_abs (w.one +ℤ w.two +ℤ w.three) ≡ unsigned_abs w.one * m + unsigned_abs w.two * m + unsigned_abs w.three * m =
      subst (λ (n : ℕ). m * n ≡ unsigned_abs w.one * m + unsigned_abs w.two * m + unsigned_abs w.three * m) (sym whole) (omega arith)
      in
      record { within = omega (arith, ints) }

  -- where a weighted sum is above zero, so is the whole weight
  pub some_weight : (a b c : ℤ) → pos 0 <ℤ weighted w a b c → pos 0 <ℤ (w.one +ℤ w.two +ℤ w.three)
  some_weight a b c p =
      by_lt_z (pos 0) (w.one +ℤ w.two +ℤ w.three) (λ some. some) (λ none.
      let zero : unsigned_abs (w.one +ℤ w.two +ℤ w.three) ≡ 0 = omega (arith, ints) in
      let m : ℕ = unsigned_abs a + unsigned_abs b + unsigned_abs c in
      let bound : IsWithin (m * unsigned_abs (w.one +ℤ w.two +ℤ w.three)) (weighted w a b c) =
      weighted_within m a b c (record { within = omega arith }) (record { within = omega arith }) (record { within = omega arith })
      in
      let nothing : m * unsigned_abs (w.one +ℤ w.two +ℤ w.three) ≡ m * 0 = ap (λ (n : ℕ). m * n) zero in
      absurd (omega (arith, ints, bound.within, nothing)))

  -- what the code computes is the mean, and keeps the numbers' bound
  module _ {r n t : ℤ} (a b c : ℤ) (e : r ≡ int_div_euclid n t) (same : n ≡ weighted w a b c) (whole : t ≡ w.one +ℤ w.two +ℤ w.three) where
    pub mean_as_kept : r ≡ mean w a b c
    unfolding mean
    mean_as_kept = e ∙ ap (λ (z : ℤ). int_div_euclid z t) same ∙ ap (λ (z : ℤ). int_div_euclid (weighted w a b c) z) whole

    pub mean_within : (m : ℕ) → pos 0 <ℤ (w.one +ℤ w.two +ℤ w.three) → IsWithin m a → IsWithin m b → IsWithin m c → IsWithin m r
    unfolding mean
    mean_within m some p q s =
        within_same _ mean_as_kept (quotient_within m (weighted w a b c) (w.one +ℤ w.two +ℤ w.three) some (weighted_within m a b c p q s))

-- the values of one list are the means of those of three others
pub means_from_each : (w : Weights) (firsts seconds thirds values : List ℤ) →
    length firsts ≡ length values → length seconds ≡ length values → length thirds ≡ length values →
    ((k : ℕ) → k < length values → get_or values k (pos 0) ≡ mean w (get_or firsts k (pos 0)) (get_or seconds k (pos 0)) (get_or thirds k (pos 0))) →
    values ≡ means w firsts seconds thirds
means_from_each w [] [] [] [] p q r e = refl
means_from_each w (a ∷ firsts) (b ∷ seconds) (c ∷ thirds) (v ∷ values) p q r e =
    ap (λ (x : ℤ). x ∷ values) (e 0 (omega arith))
    ∙ ap (λ (xs : List ℤ). mean w a b c ∷ xs) (means_from_each w firsts seconds thirds values (omega arith) (omega arith) (omega arith) (λ k h. e (suc k) (omega arith)))
means_from_each w [] seconds thirds (v ∷ values) p q r e = absurd (omega arith)
means_from_each w (a ∷ firsts) seconds thirds [] p q r e = absurd (omega arith)
means_from_each w firsts [] thirds (v ∷ values) p q r e = absurd (omega arith)
means_from_each w firsts (b ∷ seconds) thirds [] p q r e = absurd (omega arith)
means_from_each w firsts seconds [] (v ∷ values) p q r e = absurd (omega arith)
means_from_each w firsts seconds (c ∷ thirds) [] p q r e = absurd (omega arith)

-- a depth is a natural number of at most 65535
pub depth_of_sum : (s w : ℤ) → pos 0 ≤ℤ s → s ≤ℤ (pos 2 *ℤ w) → pos 0 <ℤ w → (n : ℕ) × (int_div_euclid (s *ℤ pos 65535) (pos 2 *ℤ w) ≡ pos n) × (n ≤ 65535)
depth_of_sum (pos s) (pos w) h k l =
    let some : 0 < w = omega (arith, ints) in
    let below : s ≤ 2 * w = omega (arith, ints) in
    (s * 65535 / (2 * w), refl, let low : s * 65535 / (2 * w) < 65536 = div_below (s * 65535) (2 * w) 65536 (omega arith) (omega arith) in omega arith)
depth_of_sum (negsuc s) (pos w) h k l = absurd (omega (arith, ints))
depth_of_sum (pos s) (negsuc w) h k l = absurd (omega (arith, ints))
depth_of_sum (negsuc s) (negsuc w) h k l = absurd (omega (arith, ints))

-- what the code computes is the depth
pub depth_as_kept : (z w : ℤ) {r n d : ℤ} → r ≡ int_div_euclid n d → n ≡ (z +ℤ w) *ℤ pos 65535 → d ≡ pos 2 *ℤ w →
    pos 0 <ℤ w → neg_ℤ w ≤ℤ z → z ≤ℤ w → (m : ℕ) × (r ≡ pos m) × (m ≤ 65535) × (m ≡ depth_of z w)
unfolding depth_of
depth_as_kept z w {r} {n} {d} e same double l p q =
    let found = depth_of_sum (z +ℤ w) w (omega (arith, ints)) (omega (arith, ints)) l in
    let is = e ∙ ap (λ (x : ℤ). int_div_euclid x d) same ∙ ap (λ (x : ℤ). int_div_euclid ((z +ℤ w) *ℤ pos 65535) x) double in
    (found.0, is ∙ found.1, found.2, sym (ap unsigned_abs found.1))

-- the same at 128 bits
abbrev pub kept : ℤ → ℤ
kept z = to_z w128 (of_z w128 z)

pub depth_from_code : (z w : ℤ) {r : ℤ} → r ≡ int_div_euclid (kept (kept (kept z +ℤ kept w) *ℤ pos 65535)) (kept (pos 2 *ℤ kept w)) →
    IsWithin (2 ^ 110) w → pos 0 <ℤ w → neg_ℤ w ≤ℤ z → z ≤ℤ w → (m : ℕ) × (r ≡ pos m) × (m ≤ 65535) × (m ≡ depth_of z w)
depth_from_code z w e near l p q =
    let same : kept (kept (kept z +ℤ kept w) *ℤ pos 65535) ≡ (z +ℤ w) *ℤ pos 65535 = omega (arith, ints) in
    let double : kept (pos 2 *ℤ kept w) ≡ pos 2 *ℤ w = omega (arith, ints) in
    depth_as_kept z w e same double l p q

-- and at 64 bits, of a corner
abbrev pub short : ℤ → ℤ
short z = to_z w64 (of_z w64 z)

abbrev pub widened : ℤ → ℤ
widened z = short (to_z w32 (of_z w32 z))

pub depth_from_corner : (z w : ℤ) {r : ℤ} → r ≡ int_div_euclid (short (short (widened z +ℤ widened w) *ℤ pos 65535)) (short (pos 2 *ℤ widened w)) →
    IsWithin (2 ^ 27) w → pos 0 <ℤ w → neg_ℤ w ≤ℤ z → z ≤ℤ w → (m : ℕ) × (r ≡ pos m) × (m ≤ 65535) × (m ≡ depth_of z w)
depth_from_corner z w e near l p q =
    let same : short (short (widened z +ℤ widened w) *ℤ pos 65535) ≡ (z +ℤ w) *ℤ pos 65535 = omega (arith, ints) in
    let double : short (pos 2 *ℤ widened w) ≡ pos 2 *ℤ w = omega (arith, ints) in
    depth_as_kept z w e same double l p q
