use Rattle.std.proofs.Common.{length, ◌∙◌}
use Rattle.script_trace.specs.Entries.{scripted}
use Rattle.script_trace.specs.Tallies.{tally_by}
use Rattle.script_trace.proofs.Tallying.{HasRoom-space, space_first, space_next, whole_end, whole_first, whole_next}
use Rattle.script_trace.proofs.sums.sums_of.Goals as goal

pub loop-sums-init : goal.loop-sums-init
loop-sums-init g c =
    let script = scripted c.args.spec c.args.lines.now in
    let sums = tally_by c.new-sums.result in
    let trace = c.in_ok-trace.trace in
    record {
      whole = whole_first c.args.size c.args.context script sums trace c.new-sums.ensures c.in_ok-trace.ensures;
      space = space_first c.args.size c.args.context script sums trace c.new-sums.ensures c.in_ok-trace.ensures c.requires.few;
    }

pub add-requires : goal.add-requires
add-requires g c = HasRoom-space (tally_by c.loop-sums.sums) (length c.loop-sums.trace.entries) c.loop-sums.invariant.space

pub loop-sums-preserved-in_ok-add : goal.loop-sums-preserved-in_ok-add
loop-sums-preserved-in_ok-add g c =
    let sums = tally_by c.loop-sums.sums in
    let sums2 = tally_by c.add.new.self in
    let trace = c.loop-sums.trace in
    let trace2 = c.next.new.self in
    let next = c.in_ok-entry.ensures in
    record {
      whole = whole_next sums sums2 trace trace2 c.in_ok-entry.field-0 next.next next.left c.in-Some.entry c.in-Some.is c.in_ok-add.ensures ∙ c.loop-sums.invariant.whole;
      space = space_next sums sums2 trace trace2 c.in_ok-entry.field-0 next.next next.left c.in-Some.entry c.in-Some.is c.in_ok-add.ensures c.loop-sums.invariant.space;
    }

pub loop-sums-preserved : goal.loop-sums-preserved
loop-sums-preserved g c =
    let sums = tally_by c.loop-sums.sums in
    let sums2 = tally_by c.add.new.self in
    let trace = c.loop-sums.trace in
    let trace2 = c.next.new.self in
    let next = c.in_ok-entry.ensures in
    record {
      whole = whole_next sums sums2 trace trace2 c.in_ok-entry.field-0 next.next next.left c.in-Some.entry c.in-Some.is c.in_ok-add.ensures ∙ c.loop-sums.invariant.whole;
      space = space_next sums sums2 trace trace2 c.in_ok-entry.field-0 next.next next.left c.in-Some.entry c.in-Some.is c.in_ok-add.ensures c.loop-sums.invariant.space;
    }

pub returns : goal.returns
returns g c =
    let next = c.in_ok-entry.ensures in
    whole_end (tally_by c.loop-sums.sums) (tally_by c.add_end.new.self) c.loop-sums.trace c.next.new.self c.in_ok-entry.field-0 next.next next.left c.in_default.not-Some
    c.end.result c.args.size c.args.context (scripted c.args.spec c.args.lines.now) c.end.ensures c.add_end.ensures c.loop-sums.invariant.whole
