use Rattle.std.proofs.Common.{take}
use Rattle.replay_lines.specs.Lines.{lines_in}
use Rattle.replay_core.specs.Plain.{CarriesOut}
use Rattle.replay_core.proofs.plain.Plain.carry_out.Given as goal

-- the lines so far were carried out
abbrev pub invariant-loop-line : goal.invariant-loop-line
invariant-loop-line g l = CarriesOut g.D.Machine.tracked g.D.Machine.steps (lines_in l.context (take l.line-index l.lines)) l.fn.self l.self
