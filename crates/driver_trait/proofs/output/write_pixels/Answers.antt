use Rattle.std.proofs.Common.{arith}
use Rattle.std.proofs.lemmas.Int.{ints}
use Rattle.driver_trait.proofs.Outputs.{pixels_written-narrow, pixels_written-flat}
use Rattle.driver_trait.proofs.output.write_pixels.Goals.{else-width-gt0-via-then-width-gt0+else-height-gt0, else-width-gt0-via-else-width-gt0}
use Rattle.driver_trait.proofs.output.write_pixels.Goals as goal

pub returns-else-width-gt0 : goal.returns-else-width-gt0
returns-else-width-gt0 c = elim c.else-width-gt0.branch [
  | else-width-gt0-via-then-width-gt0+else-height-gt0 w ↦ pixels_written-flat c.args.width c.args.height c.args.place c.args.alignment c.args.bytes.now c.args.memory.now (omega (arith, ints))
  | else-width-gt0-via-else-width-gt0 w ↦ pixels_written-narrow c.args.width c.args.height c.args.place c.args.alignment c.args.bytes.now c.args.memory.now (omega (arith, ints))
]
