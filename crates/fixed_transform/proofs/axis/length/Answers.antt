use Rattle.std.proofs.Common.{◌≡◌, ◌+◌, ◌*◌, unsigned_abs, ap, ◌∙◌, w32, to_z, of_z}
use Rattle.std.proofs.lemmas.Int.{to_z-of_z}
use Rattle.fixed_transform.specs.Axis.{floor_root, length_of}
use Rattle.fixed_transform.proofs.Axes.{floor_root_is}
use Rattle.fixed_transform.proofs.axis.length.Goals as goal

pub returns-clause-value : goal.returns-clause-value
unfolding length_of
returns-clause-value c =
    let x : to_z w32 (of_z w32 c.args.x) ≡ c.args.x = to_z-of_z w32 c.args.x c.ranges.x in
    let y : to_z w32 (of_z w32 c.args.y) ≡ c.args.y = to_z-of_z w32 c.args.y c.ranges.y in
    let z : to_z w32 (of_z w32 c.args.z) ≡ c.args.z = to_z-of_z w32 c.args.z c.ranges.z in
    let sum : c.square.result + c.square-2.result + c.square-3.result ≡ unsigned_abs c.args.x * unsigned_abs c.args.x + unsigned_abs c.args.y * unsigned_abs c.args.y + unsigned_abs c.args.z * unsigned_abs c.args.z = cc in
    floor_root_is (c.square.result + c.square-2.result + c.square-3.result) c.isqrt.result c.isqrt.ensures.square_le c.isqrt.ensures.next_square_gt ∙ ap floor_root sum
