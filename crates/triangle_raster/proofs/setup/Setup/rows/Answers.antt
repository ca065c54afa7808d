use Rattle.std.proofs.Common.{◌≡◌, pos, ◌*ℤ◌, ◌<ℤ◌, ◌≤ℤ◌, None, subst, w32, to_z, of_z, arith}
use Rattle.std.proofs.lemmas.Int.{ints}
use Rattle.triangle_raster.specs.Pixel.{pixel_of}
use Rattle.triangle_raster.specs.Row.{Triangle}
use Rattle.triangle_raster.specs.Vertex.{Vector}
use Rattle.triangle_raster.proofs.Heights.{none_over, none_under}
use Rattle.triangle_raster.proofs.setup.Setup.rows.Goals as goal

pub returns-clause-bottom : goal.returns-clause-bottom
returns-clause-bottom c =
    let area = c.self.inside.area in
    let r = c.bottom_of-bottom.result in
    let from : pos 0 ≤ℤ area.bottom = c.self.invariant.area_holds.from_bottom.0 in
    let to : area.bottom ≤ℤ pos 256 = c.self.invariant.area_holds.from_bottom.1 in
    let low : pos 0 ≤ℤ r = c.bottom_of-bottom.ensures.bounds.0 in
    let high : r ≤ℤ pos 256 = c.bottom_of-bottom.ensures.bounds.1 in
    let within : to_z w32 (of_z w32 area.bottom) ≤ℤ r = c.bottom_of-bottom.ensures.within in
    let h : area.bottom ≤ℤ to_z w32 (of_z w32 r) = omega (arith, ints) in
    subst (λ (t : Triangle). t.area.bottom ≤ℤ to_z w32 (of_z w32 r)) c.self.view_is h

pub returns-clause-top : goal.returns-clause-top
returns-clause-top c =
    let area = c.self.inside.area in
    let r = c.top_of-top.result in
    let from : pos 0 ≤ℤ area.top = c.self.invariant.area_holds.to_top.0 in
    let to : area.top ≤ℤ pos 256 = c.self.invariant.area_holds.to_top.1 in
    let low : pos 0 ≤ℤ r = c.top_of-top.ensures.bounds.0 in
    let high : r ≤ℤ pos 256 = c.top_of-top.ensures.bounds.1 in
    let within : r ≤ℤ to_z w32 (of_z w32 area.top) = c.top_of-top.ensures.within in
    let h : to_z w32 (of_z w32 r) ≤ℤ area.top = omega (arith, ints) in
    subst (λ (t : Triangle). to_z w32 (of_z w32 r) ≤ℤ t.area.top) c.self.view_is h

pub returns-clause-under : goal.returns-clause-under
returns-clause-under c = λ x y from before.
    let inside = c.self.inside in
    let r = c.bottom_of-bottom.result in
    let zero_on : pos 0 ≤ℤ inside.area.bottom = c.self.invariant.area_holds.from_bottom.0 in
    let few : inside.area.bottom ≤ℤ pos 256 = c.self.invariant.area_holds.from_bottom.1 in
    let low : pos 0 ≤ℤ r = c.bottom_of-bottom.ensures.bounds.0 in
    let high : r ≤ℤ pos 256 = c.bottom_of-bottom.ensures.bounds.1 in
    let under : y <ℤ r = omega (arith, ints) in
    subst (λ (t : Triangle). t.area.bottom ≤ℤ y → pixel_of t.corners t.view x y ≡ None) c.self.view_is
    (λ (lies : inside.area.bottom ≤ℤ y).
    let more : to_z w32 (of_z w32 inside.area.bottom) <ℤ r = omega (arith, ints) in
    let over = c.bottom_of-bottom.ensures.over more in
    none_under inside.shape.corners inside.shape.view c.self.invariant.shape_holds.not_flat r x y
    (subst (λ (v : Vector). (r *ℤ v.d) ≤ℤ v.y) c.of_corner-one.ensures.point over.first_over)
    (subst (λ (v : Vector). (r *ℤ v.d) ≤ℤ v.y) c.of_corner-two.ensures.point over.second_over)
    (subst (λ (v : Vector). (r *ℤ v.d) ≤ℤ v.y) c.of_corner-three.ensures.point over.third_over) under)
    from

pub returns-clause-over : goal.returns-clause-over
returns-clause-over c = λ x y past before.
    let inside = c.self.inside in
    let r = c.top_of-top.result in
    let zero_on : pos 0 ≤ℤ inside.area.top = c.self.invariant.area_holds.to_top.0 in
    let few : inside.area.top ≤ℤ pos 256 = c.self.invariant.area_holds.to_top.1 in
    let low : pos 0 ≤ℤ r = c.top_of-top.ensures.bounds.0 in
    let high : r ≤ℤ pos 256 = c.top_of-top.ensures.bounds.1 in
    let over : r ≤ℤ y = omega (arith, ints) in
    subst (λ (t : Triangle). y <ℤ t.area.top → pixel_of t.corners t.view x y ≡ None) c.self.view_is
    (λ (lies : y <ℤ inside.area.top).
    let less : r <ℤ to_z w32 (of_z w32 inside.area.top) = omega (arith, ints) in
    let under = c.top_of-top.ensures.under less in
    none_over inside.shape.corners inside.shape.view c.self.invariant.shape_holds.not_flat r x y
    (subst (λ (v : Vector). v.y ≤ℤ (r *ℤ v.d)) c.of_corner-one.ensures.point under.first_under)
    (subst (λ (v : Vector). v.y ≤ℤ (r *ℤ v.d)) c.of_corner-two.ensures.point under.second_under)
    (subst (λ (v : Vector). v.y ≤ℤ (r *ℤ v.d)) c.of_corner-three.ensures.point under.third_under) over)
    before
