-- Weights of four texels: they sum to 65536, and a mean by them lies among the numbers that it is of.
use Rattle.std.proofs.Common.{◌≡◌, ℕ, ◌+◌, ◌-◌, ◌*◌, ◌/◌, ◌≤◌, sym, ap, ◌∙◌, arith}
use Rattle.std.proofs.Math.Nat.{mul-le-mul_left}
use Rattle.texture_units.specs.Sample.{Texels, Weights, mean_at, weights_of}
use Rattle.texture_units.specs.Laws.{AreFromTo, IsFromTo, sum_of}

product_of_sums : (a b c d : ℕ) → (a + c) * (b + d) ≡ c * d + a * d + c * b + a * b
product_of_sums a b c d = omega arith

pub whole_products : (a b c d : ℕ) → a + c ≡ 256 → b + d ≡ 256 → c * d + a * d + c * b + a * b ≡ 65536
whole_products a b c d e f =
    sym (product_of_sums a b c d) ∙ ap (λ (n : ℕ). n * (b + d)) e ∙ ap (λ (n : ℕ). 256 * n) f

pub weights_whole : (a b : ℕ) → a ≤ 256 → b ≤ 256 → (256 - a) * (256 - b) + a * (256 - b) + (256 - a) * b + a * b ≡ 65536
weights_whole a b h k = whole_products a b (256 - a) (256 - b) (omega arith) (omega arith)

pub sum_of-weights_of : (a b : ℕ) → a ≤ 256 → b ≤ 256 → sum_of (weights_of a b) ≡ 65536
unfolding weights_of
sum_of-weights_of a b h k = weights_whole a b h k

-- a sum of numbers by weights, each times its weight
weighted_low : (weight low number : ℕ) → low ≤ number → low * weight ≤ weight * number
weighted_low weight low number h = let more = mul-le-mul_left weight h in omega (arith, more)

weighted_high : (weight high number : ℕ) → number ≤ high → weight * number ≤ high * weight
weighted_high weight high number h = let more = mul-le-mul_left weight h in omega (arith, more)

split_whole : (n a b c d : ℕ) → a + b + c + d ≡ 65536 → n * a + n * b + n * c + n * d ≡ 65536 * n
split_whole n a b c d e = let all = ap (λ (m : ℕ). n * m) e in omega (arith, all)

-- a mean by weights that sum to 65536, rounded, lies among its numbers
mean_low : (total low : ℕ) → 65536 * low ≤ total → low ≤ (total + 32768) / 65536
mean_low total low h = omega arith

mean_high : (total high : ℕ) → total ≤ 65536 * high → (total + 32768) / 65536 ≤ high
mean_high total high h = omega arith

pub mean_at-among : (weights : Weights) (texels : Texels) (low high channel : ℕ) → sum_of weights ≡ 65536 → AreFromTo low high channel texels
    → IsFromTo low high (mean_at weights texels channel)
unfolding mean_at
mean_at-among weights texels low high channel whole h =
    let one_low = weighted_low weights.first low _ h.first.from in
    let two_low = weighted_low weights.along_s low _ h.along_s.from in
    let three_low = weighted_low weights.along_t low _ h.along_t.from in
    let four_low = weighted_low weights.along_both low _ h.along_both.from in
    let one_high = weighted_high weights.first high _ h.first.to in
    let two_high = weighted_high weights.along_s high _ h.along_s.to in
    let three_high = weighted_high weights.along_t high _ h.along_t.to in
    let four_high = weighted_high weights.along_both high _ h.along_both.to in
    let lows = split_whole low weights.first weights.along_s weights.along_t weights.along_both whole in
    let highs = split_whole high weights.first weights.along_s weights.along_t weights.along_both whole in
    record {
      from = mean_low _ low (omega (arith, one_low, two_low, three_low, four_low, lows));
      to = mean_high _ high (omega (arith, one_high, two_high, three_high, four_high, highs));
    }

-- a sum of bytes by weights that sum to 65536
pub total_small : (a b c d w x y z : ℕ) → a + b + c + d ≡ 65536 → w ≤ a * 255 → x ≤ b * 255 → y ≤ c * 255 → z ≤ d * 255 → w + x + y + z ≤ 16711680
total_small a b c d w x y z whole one two three four = omega arith

pub four_same : (a b c d w x y z : ℕ) → a ≡ w → b ≡ x → c ≡ y → d ≡ z → a + b + c + d ≡ w + x + y + z
four_same a b c d w x y z one two three four = omega arith

-- four weights
abbrev pub four_weights : ℕ → ℕ → ℕ → ℕ → Weights
four_weights a b c d = record { first = a; along_s = b; along_t = c; along_both = d }

pub weights-same : (a b c d w x y z : ℕ) → a ≡ w → b ≡ x → c ≡ y → d ≡ z → four_weights a b c d ≡ four_weights w x y z
weights-same a b c d w x y z e f g h =
    ap (λ (n : ℕ). four_weights n b c d) e ∙ ap (λ (n : ℕ). four_weights w n c d) f
    ∙ ap (λ (n : ℕ). four_weights w x n d) g ∙ ap (four_weights w x y) h
