use Rattle.std.proofs.Common.{◌≡◌, ◌*◌, ◌≤◌}
use Rattle.front_tests.proofs.front.both.wait_issue_each.Given as goal

-- each call raises each count by at most two, and as many batches are sent as are counted
abbrev pub invariant-loop-call : goal.invariant-loop-call
invariant-loop-call g l = record {
  deferred : l.front.counts.deferred ≤ 2 * l.call-index;
  synchronised : l.front.counts.synchronised ≤ 2 * l.call-index;
  answered : l.front.counts.answered ≤ 2 * l.call-index;
  batches : l.front.counts.batches ≤ 2 * l.call-index;
  given : l.answered ≤ l.call-index;
  sent : g.R.RailState.sent l.front.rail ≡ l.front.counts.batches;
}
