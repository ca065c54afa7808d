-- Vectors by their parts.
use Rattle.std.proofs.Common.{◌≡◌, ℤ, ap, ◌∙◌}
use Rattle.triangle_raster.specs.Vertex.{Vector}
use Rattle.triangle_raster.specs.Pixel.{Weights}

pub same_vector : {a b c : ℤ} {v : Vector} → a ≡ v.x → b ≡ v.y → c ≡ v.d → record { x = a; y = b; d = c } ≡ v
same_vector {a} {b} {c} {v} p q r =
    ap (λ (k : ℤ). let w : Vector = record { x = k; y = b; d = c } in w) p
    ∙ ap (λ (k : ℤ). let w : Vector = record { x = v.x; y = k; d = c } in w) q
    ∙ ap (λ (k : ℤ). let w : Vector = record { x = v.x; y = v.y; d = k } in w) r

pub same_weights : {a b c : ℤ} {v : Weights} → a ≡ v.one → b ≡ v.two → c ≡ v.three → record { one = a; two = b; three = c } ≡ v
same_weights {a} {b} {c} {v} p q r =
    ap (λ (k : ℤ). let w : Weights = record { one = k; two = b; three = c } in w) p
    ∙ ap (λ (k : ℤ). let w : Weights = record { one = v.one; two = k; three = c } in w) q
    ∙ ap (λ (k : ℤ). let w : Weights = record { one = v.one; two = v.two; three = k } in w) r
