use Rattle.std.proofs.Common.{arith}
use Rattle.gl_tracked.proofs.Pitches.{pitch_of-none, pitch_of-step, rounded-few}
use Rattle.gl_tracked.proofs.images.pitch_of.Goals as goal

pub returns-then-alignment-gt0-clause-pitch : goal.returns-then-alignment-gt0-clause-pitch
returns-then-alignment-gt0-clause-pitch c = pitch_of-step c.args.alignment c.args.row c.from-step.result c.from.result (omega arith) (omega arith) (omega arith)

pub returns-then-alignment-gt0-clause-few : goal.returns-then-alignment-gt0-clause-few
returns-then-alignment-gt0-clause-few c = rounded-few c.args.alignment c.args.row c.from-step.result c.from.result (omega arith) (omega arith) (omega arith)

pub returns-then-alignment-gt0-clause-small : goal.returns-then-alignment-gt0-clause-small
returns-then-alignment-gt0-clause-small c =
    let few = rounded-few c.args.alignment c.args.row c.from-step.result c.from.result (omega arith) (omega arith) (omega arith) in
    omega (arith, few)

pub returns-else-alignment-gt0-clause-pitch : goal.returns-else-alignment-gt0-clause-pitch
returns-else-alignment-gt0-clause-pitch c = pitch_of-none c.args.alignment c.args.row c.from-else-alignment-gt0.result (omega arith) (omega arith)
