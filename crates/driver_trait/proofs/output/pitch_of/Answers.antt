use Rattle.std.proofs.Common.{arith, ◌∙◌, ap}
use Rattle.std.proofs.lemmas.Int.{ints}
use lib.IntN.{nat_abs}
use mir.Syntax.{w32}
use mir.Val.{to_z, of_z}
use Rattle.driver_trait.specs.Output.{pitch_of}
use Rattle.driver_trait.proofs.Outputs.{pitch_of-step, pitch_of-none}
use Rattle.driver_trait.proofs.output.pitch_of.Goals as goal

pub returns-then-alignment-gt0-clause-pitch : goal.returns-then-alignment-gt0-clause-pitch
returns-then-alignment-gt0-clause-pitch c =
    let step = nat_abs (to_z w32 (of_z w32 c.args.alignment)) in
    pitch_of-step c.args.row step (omega (arith, ints)) ∙ ap (pitch_of c.args.row) (omega (arith, ints))

pub returns-else-alignment-gt0-clause-pitch : goal.returns-else-alignment-gt0-clause-pitch
returns-else-alignment-gt0-clause-pitch c = pitch_of-none c.args.row c.args.alignment (omega (arith, ints))
