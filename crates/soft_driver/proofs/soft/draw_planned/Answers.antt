use Rattle.std.proofs.Common.{ℤ, pos, ◌≤ℤ◌, rules, subst, sym, w32, SFits}
use Rattle.std.proofs.lemmas.Int.{to_z-of_z}
use Rattle.soft_driver.proofs.Drawings.{drawn_are_few, elements_are_few}
use Rattle.soft_driver.proofs.soft.draw_planned.Goals as goal

pub draw_elements-requires-clause-few : goal.draw_elements-requires-clause-few
draw_elements-requires-clause-few g c =
    let draw = c.in-DrawArrays in
    let count : SFits w32 draw.count = search rules in
    let few = drawn_are_few c.args.state.now.tracked draw.mode draw.first draw.count (rw draw.is at c.requires.no_fault) in
    subst (λ (n : ℤ). n ≤ℤ pos 65536) (sym (to_z-of_z w32 draw.count count)) few

pub draw_elements-requires-in-DrawElements-clause-few : goal.draw_elements-requires-in-DrawElements-clause-few
draw_elements-requires-in-DrawElements-clause-few g c =
    let draw = c.in-DrawElements in
    let count : SFits w32 draw.count = search rules in
    let few = elements_are_few c.args.state.now.tracked draw.mode draw.count draw.kind draw.indices (rw draw.is at c.requires.no_fault) in
    subst (λ (n : ℤ). n ≤ℤ pos 65536) (sym (to_z-of_z w32 draw.count count)) few
