use Rattle.std.proofs.Common.{rules, length, ◌∙◌, ap, arith, length-append}
use Rattle.batch_rail.specs.Journal.{JournalView, told_with}
use Rattle.batch_rail.specs.Kept.{counts_of}
use Rattle.batch_rail.proofs.Keeping.{told_with-past, told_with-kept, AreBatches-kept}
use Rattle.batch_rail.proofs.journal.Journal.keep.Goals as goal

pub returns-then-self-len-clause-told : goal.returns-then-self-len-clause-told
returns-then-self-len-clause-told c =
    let j = c.self.inside in
    told_with-past j.slots.items (counts_of j.stretches.items j.empty) c.slots-slots.result.now c.args.batch.now.calls c.slots-slots.ensures.spellings c.slots-slots.ensures.slots c.self.invariant.batches
    j.room j.whole (search rules) (omega (arith, j.slots.ok))
    ∙ ap (λ (seen : JournalView). told_with seen.room seen.told c.args.batch.now.calls) c.self.view_is

pub invariant_of-self-2 : goal.invariant_of-self-2
invariant_of-self-2 c =
    let j = c.self.inside in
    record {
      batches = AreBatches-kept j.slots.items (counts_of j.stretches.items j.empty) c.slots-slots.result.now c.args.batch.now.calls c.slots-slots.ensures.spellings c.slots-slots.ensures.slots c.self.invariant.batches
          c.copy.new.all.items (counts_of c.counted-self-inside.new.stretches.items c.counted-self-inside.result) c.copy.ensures.items c.counted-self-inside.ensures.counts;
      few = omega (arith, ap length c.copy.ensures.items, length-append j.slots.items c.slots-slots.result.now);
      within = omega (arith, j.slots.ok, ap length c.copy.ensures.items, length-append j.slots.items c.slots-slots.result.now);
      slots_reserved = omega arith;
      stretches_reserved = omega arith;
    }

pub returns-clause-told : goal.returns-clause-told
returns-clause-told c =
    let j = c.self.inside in
    told_with-kept j.slots.items (counts_of j.stretches.items j.empty) c.slots-slots.result.now c.args.batch.now.calls c.slots-slots.ensures.spellings c.slots-slots.ensures.slots c.self.invariant.batches
    c.copy.new.all.items (counts_of c.counted-self-inside.new.stretches.items c.counted-self-inside.result) c.copy.ensures.items c.counted-self-inside.ensures.counts
    j.room j.whole (search rules) (omega (arith, j.slots.ok))
    ∙ ap (λ (seen : JournalView). told_with seen.room seen.told c.args.batch.now.calls) c.self.view_is
