use Rattle.std.proofs.Common.{◌≡◌, pos, ◌<ℤ◌, refl, subst, ◌∙◌}
use Rattle.std.specs.Prelude.{IsTrue, ◌↔◌}
use Rattle.triangle_raster.specs.Pixel.{delta_of}
use Rattle.triangle_raster.specs.Row.{Triangle}
use Rattle.triangle_draw.proofs.Culling.{culled_leaves, flat_leaves, is_culled-told}
use Rattle.triangle_draw.proofs.drawing.Drawing.draw_triangle.Goals as goal

pub returns-in_default : goal.returns-in_default
returns-in_default c = flat_leaves c.args.self.now c.args.corners.now c.args.frame.now (c.in_default.ensures.flat.0 refl)

pub returns-then-is_culled : goal.returns-then-is_culled
returns-then-is_culled c =
    let turn = c.counter_clockwise.result in
    let some : delta_of c.args.corners.now c.args.self.now.view ≡ pos 0 → ⊥ = λ flat. let is = c.in-Some.ensures.flat.1 flat in cc in
    let runs = subst (λ (t : Triangle). IsTrue turn ↔ (pos 0 <ℤ delta_of t.corners t.view)) c.in-Some.ensures.setup c.counter_clockwise.ensures in
    culled_leaves c.args.self.now c.args.corners.now c.args.frame.now
    (is_culled-told c.args.self.now c.args.corners.now turn c.is_culled.result some runs c.is_culled.ensures ∙ c.if-is_culled.true)

pub put_rows-requires-clause-kept : goal.put_rows-requires-clause-kept
put_rows-requires-clause-kept c =
    let turn = c.counter_clockwise.result in
    let some : delta_of c.args.corners.now c.args.self.now.view ≡ pos 0 → ⊥ = λ flat. let is = c.in-Some.ensures.flat.1 flat in cc in
    let runs = subst (λ (t : Triangle). IsTrue turn ↔ (pos 0 <ℤ delta_of t.corners t.view)) c.in-Some.ensures.setup c.counter_clockwise.ensures in
    is_culled-told c.args.self.now c.args.corners.now turn c.is_culled.result some runs c.is_culled.ensures ∙ c.if-is_culled.false
