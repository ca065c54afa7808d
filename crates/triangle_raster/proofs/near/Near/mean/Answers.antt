use Rattle.std.proofs.Common.{ℤ, pos, ◌<ℤ◌, subst, ◌≡◌, ◌∙◌, ◌^◌, refl, sym, to_z, of_z, arith, lit<}
use Rattle.std.specs.Int.{w128}
use Rattle.std.proofs.lemmas.Int.{ints}
use Rattle.triangle_raster.specs.Vertex.{IsWithin}
use Rattle.triangle_raster.specs.Pixel.{weighted}
use Rattle.triangle_raster.specs.Nearby.{near_seen}
use Rattle.triangle_raster.proofs.Bounds.{kept_32, kept_128, as_128, as_32}
use Rattle.triangle_raster.proofs.Means.{mean_as_kept, mean_within}
use Rattle.triangle_raster.proofs.Fragments.{mean_kept, weighted_kept}
use Rattle.triangle_raster.proofs.Ranges.{mean-same}
use Rattle.triangle_raster.proofs.near.Near.mean.Goals as goal

-- the mean of a number, given three times, is that number
pub returns-then-are_same-clause-value : goal.returns-then-are_same-clause-value
returns-then-are_same-clause-value c =
    let same = c.are_same.ensures.same c.if-are_same.true in
    let first = kept_32 c.requires.a (lit< tt) in
    let second : c.args.b ≡ c.args.a = sym (kept_32 c.requires.b (lit< tt)) ∙ sym same.0 ∙ first in
    let third : c.args.c ≡ c.args.a = sym (kept_32 c.requires.c (lit< tt)) ∙ sym same.1 ∙ first in
    let whole = mean_kept (near_seen c.args.self.now) refl second third ∙ mean-same (near_seen c.args.self.now) c.args.a (subst (λ (z : ℤ). pos 0 <ℤ z) c.requires.sums.whole_is c.requires.sums.whole_holds.some) in
    cc (first, whole)

pub overflow_cast-result : goal.overflow_cast-result
overflow_cast-result c =
    let sum : to_z w128 (of_z w128 c.weighted.result) ≡ weighted (near_seen c.args.self.now) c.args.a c.args.b c.args.c =
    kept_128 c.weighted.ensures.near (lit< tt) ∙ c.weighted.ensures.value
    ∙ weighted_kept _ (kept_32 c.requires.a (lit< tt)) (kept_32 c.requires.b (lit< tt)) (kept_32 c.requires.c (lit< tt))
    in
    let small : IsWithin (2 ^ 27) c.over.result =
    mean_within (near_seen c.args.self.now) c.requires.sums.from_one c.requires.sums.from_two c.requires.sums.from_three
    c.args.a c.args.b c.args.c c.over.ensures sum
    c.requires.sums.whole_is
    (2 ^ 27) (subst (λ (z : ℤ). pos 0 <ℤ z) c.requires.sums.whole_is c.requires.sums.whole_holds.some) c.requires.a c.requires.b c.requires.c
    in omega (arith, ints)

pub returns-clause-near : goal.returns-clause-near
returns-clause-near c =
    let sum : to_z w128 (of_z w128 c.weighted.result) ≡ weighted (near_seen c.args.self.now) c.args.a c.args.b c.args.c =
    kept_128 c.weighted.ensures.near (lit< tt) ∙ c.weighted.ensures.value
    ∙ weighted_kept _ (kept_32 c.requires.a (lit< tt)) (kept_32 c.requires.b (lit< tt)) (kept_32 c.requires.c (lit< tt))
    in
    let small : IsWithin (2 ^ 27) c.over.result =
    mean_within (near_seen c.args.self.now) c.requires.sums.from_one c.requires.sums.from_two c.requires.sums.from_three
    c.args.a c.args.b c.args.c c.over.ensures sum
    c.requires.sums.whole_is
    (2 ^ 27) (subst (λ (z : ℤ). pos 0 <ℤ z) c.requires.sums.whole_is c.requires.sums.whole_holds.some) c.requires.a c.requires.b c.requires.c
    in as_32 (as_128 small (lit< tt)) (lit< tt)

pub returns-clause-value : goal.returns-clause-value
returns-clause-value c =
    let sum : to_z w128 (of_z w128 c.weighted.result) ≡ weighted (near_seen c.args.self.now) c.args.a c.args.b c.args.c =
    kept_128 c.weighted.ensures.near (lit< tt) ∙ c.weighted.ensures.value
    ∙ weighted_kept _ (kept_32 c.requires.a (lit< tt)) (kept_32 c.requires.b (lit< tt)) (kept_32 c.requires.c (lit< tt))
    in
    let small : IsWithin (2 ^ 27) c.over.result =
    mean_within (near_seen c.args.self.now) c.requires.sums.from_one c.requires.sums.from_two c.requires.sums.from_three
    c.args.a c.args.b c.args.c c.over.ensures sum
    c.requires.sums.whole_is
    (2 ^ 27) (subst (λ (z : ℤ). pos 0 <ℤ z) c.requires.sums.whole_is c.requires.sums.whole_holds.some) c.requires.a c.requires.b c.requires.c
    in
    kept_32 (as_128 small (lit< tt)) (lit< tt) ∙ kept_128 small (lit< tt)
    ∙ mean_as_kept (near_seen c.args.self.now) c.requires.sums.from_one c.requires.sums.from_two c.requires.sums.from_three
    c.args.a c.args.b c.args.c c.over.ensures sum
    c.requires.sums.whole_is
