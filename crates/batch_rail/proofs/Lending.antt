-- What a rail was used for, once it is closed.
use Rattle.std.proofs.Common.{◌≡◌, List, [], ◌++◌, Option, refl, sym, subst}
use Rattle.std.proofs.lemmas.List.{append-nil}
use Rattle.batch_pack.specs.Spelling.{Spelled}
use Rattle.batch_rail.specs.Journal.{JournalView, told_by}
use Rattle.batch_rail.specs.Rail.{Gains}
use Rattle.batch_rail.specs.Part.{IsUsed}
use Rattle.batch_rail.proofs.Journals.{Gains-none, Gains-then, Gains-along}

-- what is told in both places is told, and has gained nothing
pub Gains-same : (old new : Option (List (List Spelled))) → new ≡ old → Gains old new []
Gains-same old new same = subst (λ (told : Option (List (List Spelled))). Gains old told []) (sym same) (Gains-none old [] refl)

-- the same of a journal that moved
pub Gains-moved : (old new : Option JournalView) → new ≡ old → Gains (told_by old) (told_by new) []
Gains-moved old new same = subst (λ (journal : Option JournalView). Gains (told_by old) (told_by journal) []) (sym same) (Gains-none (told_by old) [] refl)

-- what is gained between two steps that gain nothing
Gains-between : (old launched back new : Option (List (List Spelled))) (more : List (List Spelled)) → Gains old launched [] → Gains launched back more → Gains back new [] → Gains old new more
Gains-between old launched back new more before gained after =
    Gains-along old new (more ++ []) more (append-nil more) (Gains-then old back new more [] (Gains-then old launched back [] more before gained) after)

module _ (old launched back new : Option (List (List Spelled))) (before : Gains old launched []) (after : Gains back new []) where
  -- a rail that stood for its driver alone was used and closed: the driver that it gave was reached from the one that it had
  pub IsUsed-closed : {D : Type 0} (leads : D → List (List Spelled) → D → Type 0) (at_first at_last : D → Type 0) (driver given : D)
      → ((st : D) → at_first st → st ≡ driver) → at_last given → IsUsed leads at_first at_last launched back → IsUsed leads (λ st. st ≡ driver) (λ st. st ≡ given) old new
  IsUsed-closed {D} leads at_first at_last driver given only here used = record {
    batches = used.batches;
    led = λ st2 is.
        let led = used.led given here in
        subst (λ (last : D). (st : D) × (st ≡ driver) × leads st used.batches last) (sym is) (led.0, only led.0 led.1, led.2);
    gained = Gains-between old launched back new used.batches before used.gained after;
  }
