use Rattle.std.proofs.Common.{List, ℕ, ◌++◌, [], ◌∷◌, ap, sym, ◌∙◌}
use Rattle.batch_rail.specs.declared.stretch.Stretch.{Stretch}
use Rattle.batch_rail.specs.Kept.{counts_of}
use Rattle.batch_rail.proofs.Keeping.{counts_of-suc, counts_of-push}
use Rattle.batch_rail.proofs.journal.counted.Goals as goal

pub returns-then-slots-eq0-clause-counts : goal.returns-then-slots-eq0-clause-counts
returns-then-slots-eq0-clause-counts c =
    counts_of-suc c.args.stretches.now.items c.args.empty
    ∙ ap (λ (count : ℕ). counts_of c.args.stretches.now.items c.args.empty ++ count ∷ []) (sym c.if-slots-eq0.true)

pub returns-clause-counts : goal.returns-clause-counts
returns-clause-counts c =
    ap (λ (stretches : List Stretch). counts_of stretches 0) c.push_reserved.ensures.items
    ∙ counts_of-push c.args.stretches.now.items (record { empty = c.args.empty; slots = c.args.slots })
