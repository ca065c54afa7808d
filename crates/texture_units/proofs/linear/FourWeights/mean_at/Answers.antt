use Rattle.std.proofs.Common.{ℕ, ◌+◌, ◌/◌, ap, ◌∙◌}
use Rattle.texture_units.specs.Sample.{mean_at}
use Rattle.texture_units.proofs.Weights.{four_same, total_small}
use Rattle.texture_units.proofs.linear.FourWeights.mean_at.Goals as goal

pub total-requires : goal.total-requires
total-requires c =
    let w = c.args.self.now in
    total_small w.first w.along_s w.along_t w.along_both c.weighted-one.result c.weighted-two.result c.weighted-three.result c.weighted-four.result
    c.requires.weights c.weighted-one.ensures.most c.weighted-two.ensures.most c.weighted-three.ensures.most c.weighted-four.ensures.most

pub returns : goal.returns
unfolding mean_at
returns c =
    ap (λ (n : ℕ). (n + 32768) / 65536)
    (c.total.ensures.value
    ∙ four_same c.weighted-one.result c.weighted-two.result c.weighted-three.result c.weighted-four.result _ _ _ _
    c.weighted-one.ensures.value c.weighted-two.ensures.value c.weighted-three.ensures.value c.weighted-four.ensures.value)
