use Rattle.std.proofs.Common.{length}
use Rattle.batch_pack.proofs.Parsing.{IsReadTo}
use Rattle.batch_pack.proofs.reader.parse.Given as goal

abbrev pub invariant-calls : goal.invariant-calls
invariant-calls l = IsReadTo l.slots l.rest

abbrev pub decreases-calls : goal.decreases-calls
decreases-calls l = length l.rest
