use Rattle.std.proofs.Common.{◌^◌, false, ℤ, sym, ap, ◌∙◌, rules, arith}
use Rattle.std.specs.Int.{w128}
use Rattle.std.proofs.lemmas.Int.{ints, to_z-of_z}
use Rattle.triangle_raster.specs.Vertex.{IsWithin}
use Rattle.triangle_raster.specs.Pixel.{above_or}
use Rattle.triangle_raster.proofs.Spans.{all_pass, none_passes, passes_in-falling, passes_in-rising}
use Rattle.triangle_raster.proofs.edge.Edge.small_narrowed.Goals as goal

pub returns-then-across-gt0-clause-exact : goal.returns-then-across-gt0-clause-exact
returns-then-across-gt0-clause-exact c = λ k.
    let near : IsWithin (2 ^ 50) c.args.self.now.x = c.requires.edge.small_across in
    let small : IsWithin (2 ^ 62) c.args.sum = c.requires.sum in
    passes_in-rising c.args.self.now c.args.sum k (c.starting.ensures.exact k) (c.small_first_not_below_zero.ensures k)
    (to_z-of_z w128 c.small_first_not_below_zero.result (search rules)) (omega (arith, ints)) (omega (arith, ints)) (omega (arith, ints))

pub returns-then-across-lt0-clause-exact : goal.returns-then-across-lt0-clause-exact
returns-then-across-lt0-clause-exact c = λ k.
    let near : IsWithin (2 ^ 50) c.args.self.now.x = c.requires.edge.small_across in
    let small : IsWithin (2 ^ 62) c.args.sum = c.requires.sum in
    passes_in-falling c.args.self.now c.args.sum k (c.ending.ensures.exact k) (c.small_first_not_below_zero-then-across-lt0.ensures k)
    (to_z-of_z w128 c.small_first_not_below_zero-then-across-lt0.result (search rules)) (omega (arith, ints)) (omega (arith, ints)) (omega (arith, ints))

pub returns-then-passes-clause-exact : goal.returns-then-passes-clause-exact
returns-then-passes-clause-exact c = λ k.
    let near : IsWithin (2 ^ 50) c.args.self.now.x = c.requires.edge.small_across in
    let small : IsWithin (2 ^ 62) c.args.sum = c.requires.sum in
    all_pass c.args.self.now c.args.sum k (omega (arith, ints))
    (ap (λ (z : ℤ). above_or z (above_or c.args.self.now.x (above_or c.args.self.now.y false))) (omega (arith, ints)) ∙ sym c.passes.ensures.test ∙ c.if-passes.true)

pub returns-else-passes-clause-exact : goal.returns-else-passes-clause-exact
returns-else-passes-clause-exact c = λ k.
    let near : IsWithin (2 ^ 50) c.args.self.now.x = c.requires.edge.small_across in
    let small : IsWithin (2 ^ 62) c.args.sum = c.requires.sum in
    none_passes c.args.self.now c.args.sum k (omega (arith, ints)) _
    (ap (λ (z : ℤ). above_or z (above_or c.args.self.now.x (above_or c.args.self.now.y false))) (omega (arith, ints)) ∙ sym c.passes.ensures.test ∙ c.if-passes.false)
