use Rattle.std.proofs.Common.{◌∙◌, rules, w32}
use Rattle.std.proofs.lemmas.Int.{to_z-of_z}
use Rattle.fixed_transform.specs.Angle.{cosine}
use Rattle.fixed_transform.proofs.angle.cosine.Goals as goal

pub returns-clause-value : goal.returns-clause-value
unfolding cosine
returns-clause-value c = to_z-of_z w32 c.sine.result (search rules) ∙ c.sine.ensures.value
