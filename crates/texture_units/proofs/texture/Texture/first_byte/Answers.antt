use Rattle.std.proofs.Common.{◌≡◌, ◌+◌, ◌*◌, ◌≤◌, ℕ, length, ap, subst, ◌∙◌, arith}
use Rattle.std.proofs.lemmas.Nat.{mul-le}
use Rattle.texture_units.specs.Format.{size_of}
use Rattle.texture_units.specs.Texture.{TextureView}
use Rattle.texture_units.proofs.Formats.{size_of-few}
use Rattle.texture_units.proofs.Parts.{texel_fits}
use Rattle.texture_units.proofs.texture.Texture.first_byte.Goals as goal

pub overflow_mul-before : goal.overflow_mul-before
overflow_mul-before c =
    let high : c.self.inside.height ≡ c.args.self.now.height = ap (λ (v : TextureView). v.height) c.self.view_is in
    let most : c.args.y * c.self.inside.width ≤ 256 * 256 = mul-le c.args.y c.self.inside.width 256 256 (omega arith) c.self.invariant.wide.most in
    omega arith

pub overflow_add-before : goal.overflow_add-before
overflow_add-before c =
    let high : c.self.inside.height ≡ c.args.self.now.height = ap (λ (v : TextureView). v.height) c.self.view_is in
    let most : c.args.y * c.self.inside.width ≤ 256 * 256 = mul-le c.args.y c.self.inside.width 256 256 (omega arith) c.self.invariant.wide.most in
    omega arith

pub overflow_mul-result : goal.overflow_mul-result
overflow_mul-result c =
    let high : c.self.inside.height ≡ c.args.self.now.height = ap (λ (v : TextureView). v.height) c.self.view_is in
    let most : c.args.y * c.self.inside.width ≤ 256 * 256 = mul-le c.args.y c.self.inside.width 256 256 (omega arith) c.self.invariant.wide.most in
    let wide : c.self.inside.width ≡ c.args.self.now.width = ap (λ (v : TextureView). v.width) c.self.view_is in
    let few = size_of-few c.self.inside.format in
    let all : (c.args.y * c.self.inside.width + c.args.x) * c.size.result ≤ 131072 * 4 = mul-le (c.args.y * c.self.inside.width + c.args.x) c.size.result 131072 4 (omega arith) (omega arith) in
    omega arith

pub returns-clause-value : goal.returns-clause-value
returns-clause-value c =
    let place : c.args.y * c.self.inside.width + c.args.x ≡ c.args.y * c.args.self.now.width + c.args.x = ap (λ (v : TextureView). c.args.y * v.width + c.args.x) c.self.view_is in
    let size : c.size.result ≡ size_of c.args.self.now.format = c.size.ensures ∙ ap (λ (v : TextureView). size_of v.format) c.self.view_is in
    ap (λ (n : ℕ). n * c.size.result) place ∙ ap (λ (n : ℕ). (c.args.y * c.args.self.now.width + c.args.x) * n) size

pub returns-clause-inside : goal.returns-clause-inside
returns-clause-inside c =
    let now = c.args.self.now in
    let place : c.args.y * c.self.inside.width + c.args.x ≡ c.args.y * now.width + c.args.x = ap (λ (v : TextureView). c.args.y * v.width + c.args.x) c.self.view_is in
    let size : c.size.result ≡ size_of now.format = c.size.ensures ∙ ap (λ (v : TextureView). size_of v.format) c.self.view_is in
    let at : (c.args.y * c.self.inside.width + c.args.x) * c.size.result ≡ (c.args.y * now.width + c.args.x) * size_of now.format =
    ap (λ (n : ℕ). n * c.size.result) place ∙ ap (λ (n : ℕ). (c.args.y * now.width + c.args.x) * n) size in
    let count : length now.bytes ≡ now.width * now.height * size_of now.format =
    subst (λ (v : TextureView). length v.bytes ≡ v.width * v.height * size_of v.format) c.self.view_is c.self.invariant.whole.count in
    let fits = texel_fits c.args.x c.args.y now.width now.height (size_of now.format) c.requires.column c.requires.row in
    omega (arith, at, count, fits)
