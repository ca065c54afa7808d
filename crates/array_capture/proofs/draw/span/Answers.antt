use Rattle.std.proofs.Common.{◌≡◌, ◌+◌, ◌^◌, ◌<◌, pos, ◌<ℤ◌, ap, sym, subst, rules, arith}
use Rattle.std.proofs.lemmas.Int.{ints}
use Rattle.gl_memory.specs.declared.piece.Piece.{Piece}
use Rattle.gl_tracked.specs.Element.{element_at}
use Rattle.array_capture.proofs.Bounds.{element-fits}
use Rattle.array_capture.proofs.Covering.{element_at-order}
use Rattle.array_capture.proofs.draw.span.Goals as goal

pub overflow_add-result : goal.overflow_add-result
overflow_add-result c =
    let array = c.args.array.now in
    let low : array.pointer < 2 ^ 32 = omega arith in
    let short : array.stride <ℤ pos (2 ^ 31) = first_of (omega (arith, ints), grind (arith, ints), search (rules, ints)) in
    let near : c.args.greatest < 2 ^ 32 = omega (arith, c.ranges.greatest.fits) in
    let fits = element-fits array c.args.greatest c.requires.array low short near in
    record { fits = subst (λ (p : Piece). p.start + p.len < 2 ^ 64) (sym c.element-last.ensures) fits }

pub overflow_sub-result : goal.overflow_sub-result
overflow_sub-result c =
    let order = element_at-order c.args.array.now c.args.least c.args.greatest c.requires.order in
    let first : c.element-start.result.start ≡ (element_at c.args.array.now c.args.least).start = ap (λ (p : Piece). p.start) c.element-start.ensures in
    let last : c.element-last.result.start ≡ (element_at c.args.array.now c.args.greatest).start = ap (λ (p : Piece). p.start) c.element-last.ensures in
    omega (arith, order, first, last)
