use Rattle.gl_words.proofs.Counts.{row_is, few_in_row, no_row_missing}
use Rattle.gl_words.proofs.table.row_of.Goals as goal

pub unreachable-requires : goal.unreachable-requires
unreachable-requires c = no_row_missing c.args.call.now c.call_id.result c.call_id.ensures.gives c.in-None.ensures

pub returns-clause-row : goal.returns-clause-row
returns-clause-row c = row_is c.in-Some.row.now c.args.call.now c.call_id.result c.call_id.ensures.gives c.in-Some.ensures

pub returns-clause-few : goal.returns-clause-few
returns-clause-few c =
    few_in_row c.in-Some.row.now c.args.call.now (row_is c.in-Some.row.now c.args.call.now c.call_id.result c.call_id.ensures.gives c.in-Some.ensures)
