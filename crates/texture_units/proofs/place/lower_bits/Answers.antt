use Rattle.std.proofs.Common.{ℕ, ◌<◌, sym, subst}
use Rattle.texture_units.proofs.Sides.{lower_bits_are, rest_below}
use Rattle.texture_units.proofs.place.lower_bits.Goals as goal

pub returns-clause-value : goal.returns-clause-value
returns-clause-value c = lower_bits_are c.args.number c.args.side c.requires

pub returns-clause-inside : goal.returns-clause-inside
returns-clause-inside c =
    subst (λ (n : ℕ). n < c.args.side) (sym (lower_bits_are c.args.number c.args.side c.requires)) (rest_below c.args.number c.args.side c.requires)
