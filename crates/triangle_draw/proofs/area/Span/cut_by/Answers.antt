use Rattle.std.proofs.Common.{◌≡◌, ℤ, pos, ap, ◌∙◌, int_lt, to_z, of_z, w32, arith}
use Rattle.std.proofs.lemmas.Int.{ints}
use Rattle.triangle_draw.proofs.Areas.{before_sum}
use Rattle.triangle_draw.proofs.area.Span.cut_by.Goals as goal

pub returns-clause-before : goal.returns-clause-before
returns-clause-before c = λ at.
    let result : to_z w32 (of_z w32 c.lowered.result) ≡ c.lowered.result = omega (arith, ints) in
    ap (λ (z : ℤ). int_lt (pos at) z) result
    ∙ before_sum c.args.self.until c.args.number c.args.count _ c.lowered.result at (omega (arith, ints)) (omega (arith, ints)) (c.lowered.ensures.before at)
