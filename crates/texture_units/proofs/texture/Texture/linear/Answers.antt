use Rattle.std.proofs.Common.{ℕ, ap, ◌∙◌, w32}
use Rattle.std.proofs.lemmas.Int.{to_z-of_z}
use Rattle.texture_units.specs.Place.{first_of, second_of, share_of}
use Rattle.texture_units.specs.Sample.{Weights, four_colours, mean_at}
use Rattle.texture_units.proofs.Samples.{linear_from, means-each}
use Rattle.texture_units.proofs.texture.Texture.linear.Goals as goal

pub returns : goal.returns
returns c =
    let texture = c.args.self.now in
    let sampling = c.args.sampling.now in
    let s = to_z-of_z w32 c.args.s c.ranges.s in
    let t = to_z-of_z w32 c.args.t c.ranges.t in
    let columns = c.new-columns.result in
    let rows = c.new-rows.result in
    let texels = four_colours c.texel-one.result c.texel-two.result c.texel-three.result c.texel-four.result in
    let channel = λ (n : ℕ). ap (λ (w : Weights). mean_at w texels n) c.new-weights.ensures.value in
    means-each columns.share rows.share c.texel-one.result c.texel-two.result c.texel-three.result c.texel-four.result
    c.mean_at-red.result c.mean_at-green.result c.mean_at-blue.result c.mean_at-alpha.result
    (c.mean_at-red.ensures ∙ channel 0) (c.mean_at-green.ensures ∙ channel 1) (c.mean_at-blue.ensures ∙ channel 2) (c.mean_at-alpha.ensures ∙ channel 3)
    ∙ linear_from texture sampling c.args.s c.args.t columns.first columns.second rows.first rows.second columns.share rows.share
    c.texel-one.result c.texel-two.result c.texel-three.result c.texel-four.result
    (record {
      column_is = c.new-columns.ensures.first ∙ ap (first_of sampling.clamp_s c.width-width.result) s ∙ ap (λ (n : ℕ). first_of sampling.clamp_s n c.args.s) c.width-width.ensures.value;
      next_column_is = c.new-columns.ensures.second ∙ ap (second_of sampling.clamp_s c.width-width.result) s ∙ ap (λ (n : ℕ). second_of sampling.clamp_s n c.args.s) c.width-width.ensures.value;
      row_is = c.new-rows.ensures.first ∙ ap (first_of sampling.clamp_t c.height-height.result) t ∙ ap (λ (n : ℕ). first_of sampling.clamp_t n c.args.t) c.height-height.ensures.value;
      next_row_is = c.new-rows.ensures.second ∙ ap (second_of sampling.clamp_t c.height-height.result) t ∙ ap (λ (n : ℕ). second_of sampling.clamp_t n c.args.t) c.height-height.ensures.value;
      a_is = c.new-columns.ensures.share ∙ ap (share_of c.width-width.result) s ∙ ap (λ (n : ℕ). share_of n c.args.s) c.width-width.ensures.value;
      b_is = c.new-rows.ensures.share ∙ ap (share_of c.height-height.result) t ∙ ap (λ (n : ℕ). share_of n c.args.t) c.height-height.ensures.value;
    })
    c.texel-one.ensures c.texel-two.ensures c.texel-three.ensures c.texel-four.ensures
