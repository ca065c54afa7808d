use Rattle.batch_pack.proofs.batch.Batch.try_pack.Goals as goal

pub pack-requires-clause-heading : goal.pack-requires-clause-heading
pack-requires-clause-heading c = c.heading_of-heading.ensures c.args.call.now c.args.memory.now c.row_of.ensures.row
