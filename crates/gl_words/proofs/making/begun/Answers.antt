use Rattle.std.proofs.Common.{sym, ◌∙◌}
use Rattle.gl_words.specs.Slots.{numbers_in}
use Rattle.gl_words.proofs.Slotted.{behind_row, call_begun-none, call_begun-short, call_begun-row}
use Rattle.gl_words.proofs.making.begun.Goals as goal

pub returns-in_default : goal.returns-in_default
returns-in_default c = record { call = sym (call_begun-none c.args.id c.args.slots.now c.in_default.ensures); behind = tt }

pub returns-then-count-slots : goal.returns-then-count-slots
returns-then-count-slots c = record { call = sym (call_begun-short c.args.id c.in-Some.row.now c.args.slots.now c.in-Some.ensures c.if-count-slots.true); behind = tt }

pub returns-in-Some-made-clause-call : goal.returns-in-Some-made-clause-call
unfolding numbers_in
returns-in-Some-made-clause-call c =
    c.in-Some-made.ensures ∙ call_begun-row c.args.id c.in-Some.row.now c.args.slots.now c.split_at.result.0.now c.in-Some.ensures c.split_at.ensures.front

pub returns-in-Some-made-clause-behind : goal.returns-in-Some-made-clause-behind
returns-in-Some-made-clause-behind c =
    behind_row c.args.id c.in-Some.row.now c.args.slots.now c.split_at.result.1.now c.in-Some.ensures c.split_at.ensures.back

pub returns-in-None-clause-call : goal.returns-in-None-clause-call
unfolding numbers_in
returns-in-None-clause-call c =
    c.in-None.ensures ∙ call_begun-row c.args.id c.in-Some.row.now c.args.slots.now c.split_at.result.0.now c.in-Some.ensures c.split_at.ensures.front
