-- What the journals of contexts tell after a run.
use Rattle.std.proofs.Common.{◌≡◌, ℕ, [], Option, refl, subst}
use Rattle.std.proofs.lemmas.List.{append-nil}
use Rattle.batch_rail.proofs.Journals.{Gains-none, Gains-along, Gains-then}
use Rattle.batch_rail.specs.Maker.{KeepsOthers}
use Rattle.batch_rail.specs.Rail.{Gains}
use Rattle.replay_core.specs.Journals.{HandsOver, HandsOverSome}
use Rattle.replay_core.specs.Rail.{GainsSome}
use Rattle.replay_core.specs.World.{Batches, Journal}

-- nothing is handed over where journals are as they were
pub hands_over_nothing : (context : ℕ) (journal : Journal) → HandsOver context [] journal journal
hands_over_nothing context journal = record { its = Gains-none (journal context) [] refl; others = λ other differs. Gains-none (journal other) [] refl }

pub hands_over_none : (context : ℕ) (journal : Journal) → HandsOverSome context journal journal
hands_over_none context journal = record { batches = []; handed_over = hands_over_nothing context journal }

-- from a launch over a run to a close
module _ (context : ℕ) (old mid new : Journal) (kept : KeepsOthers old mid context) (still : KeepsOthers mid new context) where
  others_kept : KeepsOthers old new context
  others_kept other differs = Gains-then (old other) (mid other) (new other) [] [] (kept other differs) (still other differs)

  pub hands_over : (launched ran : Option Batches) (batches : Batches) → Gains (old context) launched [] → Gains launched ran batches → Gains ran (new context) [] → HandsOver context batches old new
  hands_over launched ran batches first then last = record {
    its = Gains-along (old context) (new context) _ batches (append-nil batches)
        (Gains-then (old context) ran (new context) batches [] (Gains-then (old context) launched ran [] batches first then) last);
    others = others_kept;
  }

  pub hands_over_some : (launched ran : Option Batches) → Gains (old context) launched [] → GainsSome launched ran → Gains ran (new context) [] → HandsOverSome context old new
  hands_over_some launched ran first then last = record { batches = then.0; handed_over = hands_over launched ran then.0 first then.1 last }

-- a launch that was refused
pub refused_launch : (context : ℕ) (old new : Journal) → Gains (old context) (new context) [] → KeepsOthers old new context → HandsOverSome context old new
refused_launch context old new its others = record { batches = []; handed_over = record { its = its; others = others } }

-- what some batches hand over, by another word for them
pub handed_as : (context : ℕ) (batches others : Batches) (old new : Journal) → batches ≡ others → HandsOver context batches old new → HandsOver context others old new
handed_as context batches others old new same = subst (λ (b : Batches). HandsOver context b old new) same
