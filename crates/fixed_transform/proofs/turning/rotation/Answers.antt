use Rattle.std.proofs.Common.{◌≡◌, ◌<◌, ℤ, sym, ap, ◌∙◌, arith, rules, w32, to_z, of_z}
use Rattle.std.proofs.lemmas.Int.{to_z-of_z}
use Rattle.fixed_transform.specs.Angle.{angle_of, cosine, sine}
use Rattle.fixed_transform.specs.Axis.{length_of, unit_part}
use Rattle.fixed_transform.specs.Rotation.{turn_about}
use Rattle.fixed_transform.proofs.Turns.{rotation_of-axis, rotation_of-no_axis}
use Rattle.fixed_transform.proofs.turning.rotation.Goals as goal

pub returns-then-length-eq0 : goal.returns-then-length-eq0
returns-then-length-eq0 c =
    let x : to_z w32 (of_z w32 c.args.x) ≡ c.args.x = to_z-of_z w32 c.args.x c.ranges.x in
    let y : to_z w32 (of_z w32 c.args.y) ≡ c.args.y = to_z-of_z w32 c.args.y c.ranges.y in
    let z : to_z w32 (of_z w32 c.args.z) ≡ c.args.z = to_z-of_z w32 c.args.z c.ranges.z in
    let axis : c.length-length.result ≡ length_of c.args.x c.args.y c.args.z = c.length-length.ensures.value ∙ simp (x, y, z) in
    c.identity.ensures ∙ sym (rotation_of-no_axis c.args.angle c.args.x c.args.y c.args.z (sym axis ∙ c.if-length-eq0.true))

pub returns : goal.returns
returns c =
    let x : to_z w32 (of_z w32 c.args.x) ≡ c.args.x = to_z-of_z w32 c.args.x c.ranges.x in
    let y : to_z w32 (of_z w32 c.args.y) ≡ c.args.y = to_z-of_z w32 c.args.y c.ranges.y in
    let z : to_z w32 (of_z w32 c.args.z) ≡ c.args.z = to_z-of_z w32 c.args.z c.ranges.z in
    let angle : to_z w32 (of_z w32 c.args.angle) ≡ c.args.angle = to_z-of_z w32 c.args.angle c.ranges.angle in
    let axis : c.length-length.result ≡ length_of c.args.x c.args.y c.args.z = c.length-length.ensures.value ∙ simp (x, y, z) in
    let unit_x : to_z w32 (of_z w32 c.unit_part.result) ≡ unit_part c.args.x c.length-length.result = to_z-of_z w32 c.unit_part.result (search rules) ∙ c.unit_part.ensures.value ∙ ap (λ (p : ℤ). unit_part p c.length-length.result) x in
    let unit_y : to_z w32 (of_z w32 c.unit_part-2.result) ≡ unit_part c.args.y c.length-length.result = to_z-of_z w32 c.unit_part-2.result (search rules) ∙ c.unit_part-2.ensures.value ∙ ap (λ (p : ℤ). unit_part p c.length-length.result) y in
    let unit_z : to_z w32 (of_z w32 c.unit_part-3.result) ≡ unit_part c.args.z c.length-length.result = to_z-of_z w32 c.unit_part-3.result (search rules) ∙ c.unit_part-3.ensures.value ∙ ap (λ (p : ℤ). unit_part p c.length-length.result) z in
    let of_sine : to_z w32 (of_z w32 c.sine.result) ≡ sine (angle_of c.args.angle) = to_z-of_z w32 c.sine.result (search rules) ∙ c.sine.ensures.value ∙ ap sine (c.angle_in_turn-angle.ensures.value ∙ ap angle_of angle) in
    let of_cosine : to_z w32 (of_z w32 c.cosine.result) ≡ cosine (angle_of c.args.angle) = to_z-of_z w32 c.cosine.result (search rules) ∙ c.cosine.ensures.value ∙ ap cosine (c.angle_in_turn-angle.ensures.value ∙ ap angle_of angle) in
    let some : 0 < c.length-length.result = omega arith in
    let turn : c.turn_about.result ≡ turn_about (unit_part c.args.x c.length-length.result) (unit_part c.args.y c.length-length.result) (unit_part c.args.z c.length-length.result) (sine (angle_of c.args.angle)) (cosine (angle_of c.args.angle)) =
    c.turn_about.ensures ∙ simp (unit_x, unit_y, unit_z, of_sine, of_cosine)
    in
    turn ∙ rotation_of-axis c.args.angle c.args.x c.args.y c.args.z c.length-length.result axis some
