-- Samples: the mean of four texels, among which it lies, and the one texel that NEAREST reads inside the sides.
use Rattle.std.proofs.Common.{◌≡◌, ℕ, zero, suc, ◌<◌, ℤ, Bool, true, false, cond, List, [], ◌∷◌, map, get_or, refl, sym, ap, subst, ◌∙◌, arith}
use Rattle.texture_units.specs.declared.sampling.Sampling.{Sampling}
use Rattle.texture_units.specs.Texture.{TextureView, texel_at}
use Rattle.texture_units.specs.Place.{coordinate_of, first_of, nearest_of, second_of, share_of}
use Rattle.texture_units.specs.Sample.{channels, four_colours, linear, mean_at, nearest, sampled, texels_round, weights_of}
use Rattle.texture_units.specs.Laws.{IsFromTo, IsNearestInside, LiesAmongFour}
use Rattle.texture_units.proofs.Coordinates.{nearest_of-inside, share_of-small}
use Rattle.texture_units.proofs.Weights.{mean_at-among, sum_of-weights_of}

-- the four channels of a mean
abbrev pub means : ℕ → ℕ → List ℕ → List ℕ → List ℕ → List ℕ → List ℕ
means a b one two three four = map (mean_at (weights_of a b) (four_colours one two three four)) channels

means-same : (a b p q : ℕ) (one two three four w x y z : List ℕ) → a ≡ p → b ≡ q → one ≡ w → two ≡ x → three ≡ y → four ≡ z
    → means a b one two three four ≡ means p q w x y z
means-same a b p q one two three four w x y z e f g h k l =
    ap (λ (n : ℕ). means n b one two three four) e
    ∙ ap (λ (n : ℕ). means p n one two three four) f
    ∙ ap (λ (t : List ℕ). means p q t two three four) g
    ∙ ap (λ (t : List ℕ). means p q w t three four) h
    ∙ ap (λ (t : List ℕ). means p q w x t four) k
    ∙ ap (λ (t : List ℕ). means p q w x y t) l

pub texel-same : (texture : TextureView) (column row m n : ℕ) (colour : List ℕ) → colour ≡ texel_at texture column row → column ≡ m → row ≡ n → colour ≡ texel_at texture m n
texel-same texture column row m n colour is e f = is ∙ ap (λ (k : ℕ). texel_at texture k row) e ∙ ap (texel_at texture m) f

-- a mean of the texels at these places, which are those that LINEAR reads
pub record ReadsFour (texture : TextureView) (sampling : Sampling) (s t : ℤ) (column next_column row next_row a b : ℕ) : Type 0 where
  pub column_is : column ≡ first_of sampling.clamp_s texture.width s
  pub next_column_is : next_column ≡ second_of sampling.clamp_s texture.width s
  pub row_is : row ≡ first_of sampling.clamp_t texture.height t
  pub next_row_is : next_row ≡ second_of sampling.clamp_t texture.height t
  pub a_is : a ≡ share_of texture.width s
  pub b_is : b ≡ share_of texture.height t

pub linear_from : (texture : TextureView) (sampling : Sampling) (s t : ℤ) (column next_column row next_row a b : ℕ) (one two three four : List ℕ)
    → ReadsFour texture sampling s t column next_column row next_row a b
    → one ≡ texel_at texture column row → two ≡ texel_at texture next_column row → three ≡ texel_at texture column next_row → four ≡ texel_at texture next_column next_row
    → means a b one two three four ≡ linear texture sampling s t
unfolding linear texels_round
linear_from texture sampling s t column next_column row next_row a b one two three four reads e f g h =
    means-same a b _ _ one two three four _ _ _ _ reads.a_is reads.b_is
    (texel-same texture column row _ _ one e reads.column_is reads.row_is)
    (texel-same texture next_column row _ _ two f reads.next_column_is reads.row_is)
    (texel-same texture column next_row _ _ three g reads.column_is reads.next_row_is)
    (texel-same texture next_column next_row _ _ four h reads.next_column_is reads.next_row_is)

four_numbers : (a b c d w x y z : ℕ) → a ≡ w → b ≡ x → c ≡ y → d ≡ z → a ∷ b ∷ c ∷ d ∷ [] ≡ w ∷ x ∷ y ∷ z ∷ []
four_numbers a b c d w x y z e f g h = cc

pub means-each : (a b : ℕ) (one two three four : List ℕ) (red green blue alpha : ℕ)
    → red ≡ mean_at (weights_of a b) (four_colours one two three four) 0 → green ≡ mean_at (weights_of a b) (four_colours one two three four) 1
    → blue ≡ mean_at (weights_of a b) (four_colours one two three four) 2 → alpha ≡ mean_at (weights_of a b) (four_colours one two three four) 3
    → red ∷ green ∷ blue ∷ alpha ∷ [] ≡ means a b one two three four
means-each a b one two three four red green blue alpha e f g h = four_numbers red green blue alpha _ _ _ _ e f g h

-- a channel of four
channel_of : (f : ℕ → ℕ) (channel : ℕ) → channel < 4 → get_or (map f channels) channel 0 ≡ f channel
channel_of f zero h = refl
channel_of f (suc zero) h = refl
channel_of f (suc (suc zero)) h = refl
channel_of f (suc (suc (suc zero))) h = refl
channel_of f (suc (suc (suc (suc n)))) h = absurd (omega arith)

pub sampled-among : (texture : TextureView) (sampling : Sampling) (s t q : ℤ) → LiesAmongFour texture sampling s t q
unfolding sampled linear
sampled-among texture sampling s t q = λ low high channel below linear_on among.
    let u = coordinate_of s q in
    let v = coordinate_of t q in
    let weights = weights_of (share_of texture.width u) (share_of texture.height v) in
    let a = share_of-small texture.width u in
    let b = share_of-small texture.height v in
    let whole = sum_of-weights_of (share_of texture.width u) (share_of texture.height v) (omega arith) (omega arith) in
    let is : get_or (sampled texture sampling s t q) channel 0 ≡ mean_at weights (texels_round texture sampling u v) channel =
    ap (λ (test : Bool). get_or (cond test (linear texture sampling u v) (nearest texture sampling u v)) channel 0) linear_on
    ∙ channel_of (mean_at weights (texels_round texture sampling u v)) channel below in
    subst (λ (n : ℕ). IsFromTo low high n) (sym is) (mean_at-among weights (texels_round texture sampling u v) low high channel whole among)

pub sampled-nearest : (texture : TextureView) (sampling : Sampling) (s t q : ℤ) → IsNearestInside texture sampling s t q
unfolding sampled nearest
sampled-nearest texture sampling s t q = λ column row off in_width in_height lies_s lies_t.
    let u = coordinate_of s q in
    let v = coordinate_of t q in
    ap (λ (test : Bool). cond test (linear texture sampling u v) (nearest texture sampling u v)) off
    ∙ ap (λ (n : ℕ). texel_at texture n (nearest_of sampling.clamp_t texture.height v)) (nearest_of-inside sampling.clamp_s column texture.width u in_width lies_s)
    ∙ ap (texel_at texture column) (nearest_of-inside sampling.clamp_t row texture.height v in_height lies_t)

-- what is read by LINEAR, and else by NEAREST, at coordinates that are known
pub linear-sampled : (texture : TextureView) (sampling : Sampling) (s t q u v : ℤ) → sampling.linear ≡ true → u ≡ coordinate_of s q → v ≡ coordinate_of t q
    → linear texture sampling u v ≡ sampled texture sampling s t q
unfolding sampled
linear-sampled texture sampling s t q u v on e f =
    ap (λ (z : ℤ). linear texture sampling z v) e
    ∙ ap (linear texture sampling (coordinate_of s q)) f
    ∙ sym (ap (λ (test : Bool). cond test (linear texture sampling (coordinate_of s q) (coordinate_of t q)) (nearest texture sampling (coordinate_of s q) (coordinate_of t q))) on)

pub nearest-sampled : (texture : TextureView) (sampling : Sampling) (s t q u v : ℤ) → sampling.linear ≡ false → u ≡ coordinate_of s q → v ≡ coordinate_of t q
    → nearest texture sampling u v ≡ sampled texture sampling s t q
unfolding sampled
nearest-sampled texture sampling s t q u v off e f =
    ap (λ (z : ℤ). nearest texture sampling z v) e
    ∙ ap (nearest texture sampling (coordinate_of s q)) f
    ∙ sym (ap (λ (test : Bool). cond test (linear texture sampling (coordinate_of s q) (coordinate_of t q)) (nearest texture sampling (coordinate_of s q) (coordinate_of t q))) off)
