use Rattle.std.proofs.Common.{refl, sym, ap, subst}
use Rattle.rtrb.specs.Ring.{sent}
use Rattle.batch_pack.specs.Batch.{IsBatchSize}
use Rattle.epoch_rail.proofs.Left.{LeadsTo-only, MayFail-none, IsWorkOf-all}
use Rattle.epoch_rail.proofs.rail.EpochRail.over.Goals as goal

pub returns-clause-launched : goal.returns-clause-launched
returns-clause-launched g c =
    let ends = c.requires.ends in record {
      batch_size = subst IsBatchSize (sym ends.of_size) c.requires.slots;
      at_home = (c.requires.ready, IsWorkOf-all c.args.caller _ ends.fellows ends.all);
      sound = MayFail-none g.D.Machine.steps _ (sent c.args.caller.filled) ends.all refl;
      known = λ st leads. ap g.D.Machine.tracked (LeadsTo-only g.D.Machine.steps _ (sent c.args.caller.filled) st ends.all leads);
    }

pub returns-clause-unused : goal.returns-clause-unused
returns-clause-unused g c =
    let ends = c.requires.ends in record {
      of_size = ends.of_size;
      none_sent = refl;
      only = λ st leads. LeadsTo-only g.D.Machine.steps _ (sent c.args.caller.filled) st ends.all leads;
    }
