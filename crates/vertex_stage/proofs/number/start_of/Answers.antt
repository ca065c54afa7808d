use Rattle.std.proofs.Common.{◌-◌, ◌^◌, ◌<◌, pos, ◌<ℤ◌, sym, subst, rules, arith}
use Rattle.std.proofs.lemmas.Int.{ints}
use Rattle.gl_memory.specs.declared.piece.Piece.{Piece}
use Rattle.vertex_stage.proofs.Bounds.{start-low}
use Rattle.vertex_stage.proofs.number.start_of.Goals as goal

pub returns-clause-low : goal.returns-clause-low
returns-clause-low c =
    let array = c.args.array.now in
    let low : array.pointer < 2 ^ 32 = omega arith in
    let short : array.stride <ℤ pos (2 ^ 31) = first_of (omega (arith, ints), grind (arith, ints), search (rules, ints)) in
    subst (λ (p : Piece). p.start < 2 ^ 63 - 2 ^ 32) (sym c.element.ensures) (start-low array c.args.place c.requires.array low short c.requires.near)
