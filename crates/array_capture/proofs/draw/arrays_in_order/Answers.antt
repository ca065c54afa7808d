use Rattle.std.proofs.Common.{false, pos, slice_index_or}
use Rattle.gl_tracked.specs.declared.tracked.ArrayState.{ArrayState}
use Rattle.array_capture.proofs.Bounds.{five_arrays, normals_are_array, two_arrays}
use Rattle.array_capture.proofs.draw.arrays_in_order.Goals as goal

pub returns-clause-each : goal.returns-clause-each
returns-clause-each c =
    let sound = c.requires.sound in
    let tracked = c.args.tracked.now in
    let none : ArrayState = record { enabled = false; size = pos 0; kind = 0; stride = pos 0; pointer = 0; buffer = 0 } in
    let normal : ArrayState = record tracked.normal { size = pos 3 } in
    let two = two_arrays tracked.texture none sound.texture in
    five_arrays tracked.vertex normal tracked.colour (slice_index_or tracked.texture 0 none) (slice_index_or tracked.texture 1 none)
    sound.vertex (normals_are_array tracked.normal sound.normal) sound.colour (two.0) (two.1)
