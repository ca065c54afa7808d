use Rattle.std.proofs.Common.{◌≡◌, ℕ, ◌*◌, ◌≤◌, List, length, sym, ap, subst, ◌∙◌, arith}
use Rattle.std.proofs.lemmas.List.{with_items_is}
use Rattle.std.proofs.lemmas.Nat.{mul-le}
use Rattle.texture_units.specs.Format.{size_of}
use Rattle.texture_units.specs.Texture.{HasItsBytes, TextureView}
use Rattle.texture_units.specs.Part.{TakesPart, block, bytes_after, with_part}
use Rattle.texture_units.proofs.Formats.{size_of-few, size_of-some}
use Rattle.texture_units.proofs.Parts.{block_high, block_wide, with_bytes, with_part-takes}
use Rattle.texture_units.proofs.texture.Texture.put_part.Goals as goal

pub overflow_mul-stride : goal.overflow_mul-stride
overflow_mul-stride c =
    let few = size_of-few c.self.inside.format in
    let most : c.self.inside.width * c.size-size.result ≤ 256 * 4 = mul-le c.self.inside.width c.size-size.result 256 4 c.self.invariant.wide.most (omega arith) in
    omega arith

pub overflow_mul-first : goal.overflow_mul-first
overflow_mul-first c =
    let width : c.self.inside.width ≡ c.args.self.now.width = ap (λ (v : TextureView). v.width) c.self.view_is in
    let few = size_of-few c.self.inside.format in
    let most : c.args.x * c.size-size.result ≤ 256 * 4 = mul-le c.args.x c.size-size.result 256 4 (omega arith) (omega arith) in
    omega arith

pub overflow_mul-run : goal.overflow_mul-run
overflow_mul-run c =
    let width : c.self.inside.width ≡ c.args.self.now.width = ap (λ (v : TextureView). v.width) c.self.view_is in
    let few = size_of-few c.self.inside.format in
    let most : c.args.width * c.size-size.result ≤ 256 * 4 = mul-le c.args.width c.size-size.result 256 4 (omega arith) (omega arith) in
    omega arith

pub put_rows-requires-clause-wide : goal.put_rows-requires-clause-wide
put_rows-requires-clause-wide c =
    let width : c.self.inside.width ≡ c.args.self.now.width = ap (λ (v : TextureView). v.width) c.self.view_is in
    block_wide c.args.x c.args.width c.self.inside.width c.size-size.result (omega arith)

pub put_rows-requires-clause-some : goal.put_rows-requires-clause-some
put_rows-requires-clause-some c =
    let some = size_of-some c.self.inside.format in
    let least = mul-le 1 1 c.self.inside.width c.size-size.result c.self.invariant.wide.some (omega arith) in
    omega arith

pub put_rows-requires-clause-narrow : goal.put_rows-requires-clause-narrow
put_rows-requires-clause-narrow c =
    let few = size_of-few c.self.inside.format in
    let most : c.self.inside.width * c.size-size.result ≤ 256 * 4 = mul-le c.self.inside.width c.size-size.result 256 4 c.self.invariant.wide.most (omega arith) in
    omega arith

pub put_rows-requires-clause-low : goal.put_rows-requires-clause-low
put_rows-requires-clause-low c =
    let height : c.self.inside.height ≡ c.args.self.now.height = ap (λ (v : TextureView). v.height) c.self.view_is in
    omega arith

pub put_rows-requires-clause-high : goal.put_rows-requires-clause-high
put_rows-requires-clause-high c =
    let height : c.self.inside.height ≡ c.args.self.now.height = ap (λ (v : TextureView). v.height) c.self.view_is in
    let stride = c.self.inside.width * c.size-size.result in
    let within = block_high c.args.y c.args.height c.self.inside.height stride (omega arith) in
    let count : length c.self.inside.bytes.items ≡ c.self.inside.width * c.self.inside.height * c.size-size.result =
    c.self.invariant.whole.count ∙ ap (λ (n : ℕ). c.self.inside.width * c.self.inside.height * n) (sym c.size-size.ensures) in
    omega (arith, within, count, ap (λ (l : List ℕ). length l) c.deref_mut.ensures.value)

pub put_rows-requires-clause-whole : goal.put_rows-requires-clause-whole
put_rows-requires-clause-whole c =
    let size : size_of c.args.self.now.format ≡ c.size-size.result = sym (c.size-size.ensures ∙ ap (λ (v : TextureView). size_of v.format) c.self.view_is) in
    let count : length c.args.bytes.now ≡ c.args.width * c.args.height * c.size-size.result =
    c.requires.whole.count ∙ ap (λ (n : ℕ). c.args.width * c.args.height * n) size in
    omega (arith, count)

pub returns-clause-bytes : goal.returns-clause-bytes
unfolding with_part
returns-clause-bytes c =
    let seen : TextureView = record { format = c.self.inside.format; width = c.self.inside.width; height = c.self.inside.height; bytes = c.self.inside.bytes.items } in
    let part : TextureView = record { format = c.args.self.now.format; width = c.args.width; height = c.args.height; bytes = c.args.bytes.now } in
    let there = λ (n : ℕ). block (c.self.inside.width * n) (c.args.x * n) (c.args.width * n) c.args.y c.args.height in
    let long : length c.put_rows.new.bytes ≡ c.self.inside.bytes.len =
    omega (arith, ap (λ (l : List ℕ). length l) c.deref_mut.ensures.value, c.self.inside.bytes.ok.0, c.put_rows.auto.bytes) in
    ap (with_bytes seen) (
    with_items_is c.self.inside.bytes c.put_rows.new.bytes long ∙ c.put_rows.ensures
    ∙ ap (λ (l : List ℕ). bytes_after (there c.size-size.result) c.args.bytes.now l) c.deref_mut.ensures.value
    ∙ ap (λ (n : ℕ). bytes_after (there n) c.args.bytes.now c.self.inside.bytes.items) c.size-size.ensures
    )
    ∙ ap (λ (v : TextureView). with_part c.args.x c.args.y part v) c.self.view_is

pub returns-clause-texels : goal.returns-clause-texels
returns-clause-texels c =
    let now = c.args.self.now in
    let part : TextureView = record { format = now.format; width = c.args.width; height = c.args.height; bytes = c.args.bytes.now } in
    let whole : HasItsBytes now = subst (λ (v : TextureView). HasItsBytes v) c.self.view_is c.self.invariant.whole in
    subst (λ (v : TextureView). TakesPart c.args.x c.args.y part now v) (sym (returns-clause-bytes c)) (with_part-takes c.args.x c.args.y part now c.requires whole)
