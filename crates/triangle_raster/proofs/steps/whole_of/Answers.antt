use Rattle.std.proofs.Common.{◌≡◌, ◌^◌, ◌+◌, pos, ◌*ℤ◌, ◌<ℤ◌, ◌≤ℤ◌, ℤ, sym, ap, ◌∙◌, to_z, of_z, rules, lit≤, lit<}
use Rattle.std.specs.Int.{w128}
use Rattle.triangle_raster.specs.Vertex.{IsWithin}
use Rattle.triangle_raster.proofs.Bounds.{as_128, kept_128, zero_from_bits}
use Rattle.triangle_raster.proofs.Wholes.{doubled, doubled_few, doubled_some, three_kept, whole_everywhere}
use Rattle.triangle_raster.proofs.steps.whole_of.Goals as goal

pub returns : goal.returns
returns c =
    let shape = c.args.shape.now in
    let first = c.requires.first_near in
    let second = c.requires.second_near in
    let third = c.requires.third_near in
    let near_x = c.total-across.ensures.near (2 ^ 68) (2 ^ 68) (2 ^ 68) (as_128 first.across (lit< tt)) (as_128 second.across (lit< tt)) (as_128 third.across (lit< tt)) in
    let near_y = c.total-upward.ensures.near (2 ^ 68) (2 ^ 68) (2 ^ 68) (as_128 first.upward (lit< tt)) (as_128 second.upward (lit< tt)) (as_128 third.upward (lit< tt)) in
    let near_d : IsWithin (2 ^ 79 + 2 ^ 79 + 2 ^ 79) c.total-half.result = c.total-half.ensures.near (2 ^ 79) (2 ^ 79) (2 ^ 79) (as_128 first.divisor (lit< tt)) (as_128 second.divisor (lit< tt)) (as_128 third.divisor (lit< tt)) in
    let across : c.total-across.result ≡ pos 0 = zero_from_bits near_x (lit≤ tt) c.if-across-ne0.false in
    let upward : c.total-upward.result ≡ pos 0 = zero_from_bits near_y (lit≤ tt) c.if-upward-ne0.false in
    let value_x = three_kept c.total-across.ensures.value (kept_128 first.across (lit< tt)) (kept_128 second.across (lit< tt)) (kept_128 third.across (lit< tt)) in
    let value_y = three_kept c.total-upward.ensures.value (kept_128 first.upward (lit< tt)) (kept_128 second.upward (lit< tt)) (kept_128 third.upward (lit< tt)) in
    let value_d = three_kept c.total-half.ensures.value (kept_128 first.divisor (lit< tt)) (kept_128 second.divisor (lit< tt)) (kept_128 third.divisor (lit< tt)) in
    let more : pos 0 <ℤ to_z w128 (of_z w128 c.total-half.result) = search rules in
    let less : to_z w128 (of_z w128 c.total-half.result) ≤ℤ pos 2305843009213693952 = search rules in
    let whole = doubled more less in
    record {
      some = doubled_some whole more;
      few = doubled_few whole less;
      everywhere = whole_everywhere shape c.requires (sym value_x ∙ across) (sym value_y ∙ upward) (whole ∙ ap (λ (z : ℤ). z *ℤ pos 2) (kept_128 near_d (lit< tt) ∙ value_d));
    }
