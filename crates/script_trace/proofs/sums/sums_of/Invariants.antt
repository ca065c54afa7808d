use Rattle.std.proofs.Common.{◌≡◌, length}
use Rattle.script_trace.specs.Entries.{scripted, trace_of}
use Rattle.script_trace.specs.Tallies.{no_tally, tally_by}
use Rattle.script_trace.proofs.Tallying.{HasSpace, with_trace}
use Rattle.script_trace.proofs.sums.sums_of.Given as goal

-- what is counted and what is still to come make the whole, and there is space for it
abbrev pub invariant-loop-sums : goal.invariant-loop-sums
invariant-loop-sums g l = record {
  whole : with_trace (tally_by l.sums) l.trace ≡ with_trace no_tally (trace_of l.fn.size l.fn.context (scripted l.fn.spec l.fn.lines));
  space : HasSpace (tally_by l.sums) (length l.trace.entries);
}

abbrev pub decreases-loop-sums : goal.decreases-loop-sums
decreases-loop-sums g l = length l.trace.entries
