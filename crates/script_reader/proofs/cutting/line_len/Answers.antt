-- the first line ends at the first LF, or at the end
use Rattle.std.proofs.Common.{add-one, arith, rules}
use Rattle.script_reader.proofs.Cuts.{first_line, first_is_whole_line}
use Rattle.script_reader.proofs.cutting.line_len.Goals as goal

pub returns-then-byte-eq10-clause-first : goal.returns-then-byte-eq10-clause-first
returns-then-byte-eq10-clause-first c = rw add-one (first_line c.args.bytes.now c.loop-at.at c.loop-at.invariant (omega arith) (search rules))

pub returns-clause-first : goal.returns-clause-first
returns-clause-first c = first_is_whole_line c.args.bytes.now (λ k h. c.loop-at.invariant k (omega arith)) c.requires
