use Rattle.std.proofs.Common.{◌≡◌, ℕ, sym, ap, subst, ◌∙◌, arith}
use Rattle.fragment_ops.specs.Frame.{frame_changed}
use Rattle.triangle_draw.specs.Area.{IsAreaOf}
use Rattle.triangle_draw.specs.Draw.{cell_after_triangles}
use Rattle.triangle_draw.specs.Elements.{place_in}
use Rattle.triangle_draw.specs.Fragments.{HaveShades}
use Rattle.triangle_draw.proofs.DrawChanges.{area_kept, corners_placed, corners_told, draw_disabled, draw_enabled, triangles_more, triangles_none}
use Rattle.triangle_draw.proofs.Shades.{corners_shaded}
use Rattle.triangle_draw.proofs.triangles.draw.Goals as goal

pub returns-then-not-drawing : goal.returns-then-not-drawing
returns-then-not-drawing g c = draw_disabled c.args.drawing.now (g.S.Memories.each c.args.memories.now) c.args.mode (place_in c.args.elements (g.S.Memories.each c.args.memories.now)) c.args.frame.now c.args.count c.if-not-drawing.true

pub loop-number-init : goal.loop-number-init
loop-number-init g c = triangles_none c.args.drawing.now (g.S.Memories.each c.args.memories.now) c.args.mode (place_in c.args.elements (g.S.Memories.each c.args.memories.now)) c.args.frame.now

pub draw_triangle-requires-clause-shades : goal.draw_triangle-requires-clause-shades
draw_triangle-requires-clause-shades g c =
    subst HaveShades (sym c.corners-corners.ensures.value) (corners_shaded c.args.drawing.now.stage (g.S.Memories.each c.args.memories.now) _ _ _)

pub draw_triangle-requires-clause-area : goal.draw_triangle-requires-clause-area
draw_triangle-requires-clause-area g c =
    let wide : c.width.result ≡ c.args.frame.now.width = c.width.ensures in
    let high : c.height.result ≡ c.args.frame.now.height = c.height.ensures in
    let of_frame =
    subst (λ (n : ℕ). IsAreaOf c.args.drawing.now c.args.frame.now.width n c.area_of-area.result) high
    (subst (λ (n : ℕ). IsAreaOf c.args.drawing.now n c.height.result c.area_of-area.result) wide c.area_of-area.ensures) in
    area_kept c.args.drawing.now c.area_of-area.result _ c.args.frame.now c.loop-number.frame c.loop-number.invariant of_frame

pub loop-number-preserved : goal.loop-number-preserved
loop-number-preserved g c =
    let memories = g.S.Memories.each c.args.memories.now in
    let at = place_in c.args.elements memories in
    triangles_more c.args.drawing.now memories c.args.mode at c.args.frame.now c.loop-number.number c.corners-corners.result c.loop-number.frame c.draw_triangle.new.frame c.loop-number.invariant
    (corners_told c.args.drawing.now memories c.args.mode at c.args.frame.now c.loop-number.number c.triangle-places.result c.corners-corners.result c.triangle-places.ensures.triangle
    (corners_placed c.args.drawing.now.stage memories at c.triangle-places.result c.corners-corners.result c.place.result c.place-in-loop-number.result c.place-in-loop-number-2.result c.place.ensures.place c.place-in-loop-number.ensures.place c.place-in-loop-number-2.ensures.place c.corners-corners.ensures.value))
    c.draw_triangle.ensures

pub returns : goal.returns
returns g c =
    let memories = g.S.Memories.each c.args.memories.now in
    let at = place_in c.args.elements memories in
    let all : c.loop-number.number ≡ c.triangle_count-triangles.result = omega arith in
    draw_enabled c.args.drawing.now memories c.args.mode at c.args.frame.now c.args.count c.loop-number.frame c.if-not-drawing.false
    (c.loop-number.invariant ∙ ap (λ (n : ℕ). frame_changed (cell_after_triangles c.args.drawing.now memories c.args.mode at n) c.args.frame.now) (all ∙ c.triangle_count-triangles.ensures))
