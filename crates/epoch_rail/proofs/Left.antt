-- What is left to a work, after more was sent and after some was carried out.
use Rattle.std.proofs.Common.{◌≡◌, ◌≢◌, ℕ, zero, suc, ◌+◌, ◌≤◌, ◌⊎◌, inl, inr, true, false, List, [], ◌∷◌, ◌++◌, length, map, drop, flat_map, Option, Some, None, refl, sym, ap, subst, ◌∙◌, arith, append-nil, append_assoc}
use Rattle.std.proofs.lemmas.List.{length-append, drop-append-le, drop_all}
use Rattle.std.proofs.lemmas.Grind.{flat_map-append}
use Rattle.std.specs.List.{slice_get}
use Rattle.rtrb.specs.Ring.{received, sent, IsPair, SameConsumer, SameProducer}
use Rattle.rtrb.specs.declared.consumer.Consumer.{Consumer}
use Rattle.rtrb.specs.declared.producer.Producer.{Producer}
use Rattle.batch_pack.specs.Batch.{BatchView}
use Rattle.batch_pack.specs.Spelling.{Spelled}
use Rattle.driver_trait.specs.Driver.{Steps}
use Rattle.batch_rail.specs.Run.{Run, RunFirst, RunsFrom}
use Rattle.batch_rail.proofs.BatchRuns.{RunFirst-next, RunFirst-more}
use Rattle.epoch_rail.specs.Ends.{SameWorker, SameCaller, AreFellows}
use Rattle.epoch_rail.specs.Work.{calls_of, RunAll, HaveCall, Carried}
use Rattle.epoch_rail.specs.Rail.{left_of, LeadsTo, MayFail, IsWorkOf, StandsFor, FailsBy, IsHome}
use Rattle.epoch_rail.specs.declared.ends.WorkerEnds.{WorkerEnds}
use Rattle.epoch_rail.specs.declared.ends.CallerEnds.{CallerEnds}
use Rattle.epoch_rail.specs.declared.work.Work.{Work}
use Rattle.epoch_rail.specs.declared.stage.Stage.{Stage}
use Rattle.epoch_rail.specs.declared.stage.Stage.TheVariants.{Home, Away, Taken}
use Rattle.epoch_rail.proofs.Works.{calls_of-push, calls_of-append, HaveCall-front, HaveCall-others, RunAll-last}

-- the ends of a ring are those of it later too
pub IsPair-later : {T A P : Type 0} (one two : Producer T A P) (three four : Consumer T A P) → IsPair one three → SameProducer one two → SameConsumer three four → IsPair two four
IsPair-later one two three four pair first second =
    (second.0.0 ∙ pair.0 ∙ sym first.0.0, second.0.1 ∙ pair.1 ∙ sym first.0.1, second.0.2 ∙ pair.2 ∙ sym first.0.2, second.0.3 ∙ pair.3 ∙ sym first.0.3)

pub AreFellows-later : (caller after : CallerEnds) (worker back : WorkerEnds) → AreFellows caller worker → SameCaller caller after → SameWorker worker back → AreFellows after back
AreFellows-later caller after worker back fellows first second = record {
  filled = IsPair-later caller.filled after.filled worker.filled back.filled fellows.filled first.filled second.filled;
  emptied = IsPair-later worker.emptied back.emptied caller.emptied after.emptied fellows.emptied second.emptied first.emptied;
  size = second.size ∙ fellows.size ∙ sym first.size;
}

-- what stays of a list when its front is dropped
drop-front : (front behind : List BatchView) → drop (length front) (front ++ behind) ≡ behind
drop-front front behind = drop-append-le (length front) front behind (omega arith) ∙ ap (λ (l : List BatchView). l ++ behind) (drop_all (length front) front (omega arith))

-- a batch of a list behind another
slice_get-behind : (batches more : List (List Spelled)) (at count : ℕ) → at ≡ length batches + count → slice_get (batches ++ more) at ≡ slice_get more count
slice_get-behind [] more at count is = ap (slice_get more) (omega arith)
slice_get-behind (first ∷ batches) more zero count is = absurd (omega arith)
slice_get-behind (first ∷ batches) more (suc at) count is = slice_get-behind batches more at count (omega arith)

back_nil : (xs ys : List Spelled) → xs ++ ys ≡ [] → ys ≡ []
back_nil [] ys none = none
back_nil (x ∷ xs) ys none = absurd (cc)

-- a call that the last batches have, all have
HaveCall-back : (batches more : List (List Spelled)) → HaveCall more → HaveCall (batches ++ more)
HaveCall-back batches more have = λ none.
    have (back_nil (flat_map (λ (calls : List Spelled). calls) batches) (flat_map (λ (calls : List Spelled). calls) more) (sym (flat_map-append (λ (calls : List Spelled). calls) batches more) ∙ none))

module _ {S : Type 0} (work : Work S) (batches : List BatchView) where
  -- nothing is left where all was received
  pub left_of-none : received work.ends.filled ≡ batches → left_of work batches ≡ []
  unfolding left_of calls_of
  left_of-none all = ap (λ (l : List BatchView). map (λ (b : BatchView). b.calls) l) (drop_all (length (received work.ends.filled)) batches (omega (arith, ap length all)))

  -- one more batch was sent
  pub left_of-push : (batch : BatchView) → length (received work.ends.filled) ≤ length batches → left_of work (batches ++ batch ∷ []) ≡ left_of work batches ++ batch.calls ∷ []
  unfolding left_of
  left_of-push batch within = ap calls_of (drop-append-le (length (received work.ends.filled)) batches (batch ∷ []) within) ∙ calls_of-push (drop (length (received work.ends.filled)) batches) batch

-- what was left is what was carried out and what is left now
pub left_of-carried : {S : Type 0} (work after : Work S) (ran rest batches : List BatchView) → received after.ends.filled ≡ received work.ends.filled ++ ran → received after.ends.filled ++ rest ≡ batches
    → left_of work batches ≡ calls_of ran ++ left_of after batches
unfolding left_of
left_of-carried work after ran rest batches took whole =
    let before = received work.ends.filled in
    let all : batches ≡ before ++ (ran ++ rest) = sym whole ∙ ap (λ (l : List BatchView). l ++ rest) took ∙ append_assoc before ran rest in
    let old : drop (length before) batches ≡ ran ++ rest = ap (λ (l : List BatchView). drop (length before) l) all ∙ drop-front before (ran ++ rest) in
    let new : drop (length (received after.ends.filled)) batches ≡ rest = ap (λ (l : List BatchView). drop (length (received after.ends.filled)) l) (sym whole) ∙ drop-front (received after.ends.filled) rest in
    ap calls_of old ∙ calls_of-append ran rest ∙ ap (λ (l : List BatchView). calls_of ran ++ calls_of l) (sym new)

module _ {S : Type 0} (steps : Steps S) where
  -- a run over some batches and one over those behind them are a run over all
  RunFirst-append : (start mid : S) (batches more : List (List Spelled)) (count : ℕ) (st2 : S) → RunAll steps start batches mid → RunFirst steps mid more count st2 → RunFirst steps start (batches ++ more) (length batches + count) st2
  RunFirst-append start mid batches more zero st2 first second =
      let none : length batches ≡ length batches + 0 = omega arith in
      subst (λ (st : S). RunFirst steps start (batches ++ more) (length batches + 0) st) (sym second)
      (subst (λ (n : ℕ). RunFirst steps start (batches ++ more) n mid) none (RunFirst-more steps start batches more (length batches) mid first))
  RunFirst-append start mid batches more (suc count) st2 first (last, batch, others, stands, run) =
      let one_more : length batches + count + 1 ≡ length batches + suc count = omega arith in
      subst (λ (n : ℕ). RunFirst steps start (batches ++ more) n st2) one_more
      (RunFirst-next steps start (batches ++ more) (length batches + count) last batch st2
      (RunFirst-append start mid batches more count last first others)
      (slice_get-behind batches more (length batches + count) count refl ∙ stands) run)

  pub RunAll-append : (start mid st2 : S) (batches more : List (List Spelled)) → RunAll steps start batches mid → RunAll steps mid more st2 → RunAll steps start (batches ++ more) st2
  RunAll-append start mid st2 batches more first second =
      subst (λ (n : ℕ). RunFirst steps start (batches ++ more) n st2) (sym (length-append batches more)) (RunFirst-append start mid batches more (length more) st2 first second)

  -- a work leads where it led before some of it was carried out
  LeadsTo-carried : (work after : Work S) (rest batches : List BatchView) (st : S) → Carried steps work after → received after.ends.filled ++ rest ≡ batches → LeadsTo steps after batches st → LeadsTo steps work batches st
  LeadsTo-carried work after rest batches st carried whole (sound, run) =
      let first = carried.runs sound in (
        first.0,
        subst (λ (bs : List (List Spelled)). RunAll steps work.driver bs st) (sym (left_of-carried work after carried.ran rest batches carried.took whole))
            (RunAll-append work.driver after.driver st (calls_of carried.ran) (left_of after batches) (first.1) run),
      )

  MayFail-cause : (work : Work S) (batches : List BatchView) (ran more : List (List Spelled)) → left_of work batches ≡ ran ++ more → (work.failed ≡ true) ⊎ HaveCall ran → MayFail work batches
  MayFail-cause work batches ran more is (inl before) = inl before
  MayFail-cause work batches ran more is (inr have) = inr (subst HaveCall (sym is) (HaveCall-front ran more have))

  MayFail-carried : (work after : Work S) (rest batches : List BatchView) → Carried steps work after → received after.ends.filled ++ rest ≡ batches → MayFail after batches → MayFail work batches
  MayFail-carried work after rest batches carried whole (inl failed) =
      MayFail-cause work batches (calls_of carried.ran) (left_of after batches) (left_of-carried work after carried.ran rest batches carried.took whole) (carried.cause failed)
  MayFail-carried work after rest batches carried whole (inr have) =
      inr (subst HaveCall (sym (left_of-carried work after carried.ran rest batches carried.took whole)) (HaveCall-back (calls_of carried.ran) (left_of after batches) have))

  -- once all was carried out
  pub LeadsTo-settled : (work after : Work S) (old new : List BatchView) (st : S) → Carried steps work after → received after.ends.filled ≡ new → new ≡ old → LeadsTo steps after new st → LeadsTo steps work old st
  LeadsTo-settled work after old new st carried all same leads =
      LeadsTo-carried work after [] old st carried (append-nil (received after.ends.filled) ∙ all ∙ same) (subst (λ (bs : List BatchView). LeadsTo steps after bs st) same leads)

  pub MayFail-settled : (work after : Work S) (old new : List BatchView) → Carried steps work after → received after.ends.filled ≡ new → new ≡ old → MayFail after new → MayFail work old
  MayFail-settled work after old new carried all same fails =
      MayFail-carried work after [] old carried (append-nil (received after.ends.filled) ∙ all ∙ same) (subst (λ (bs : List BatchView). MayFail after bs) same fails)

  -- in two stretches
  pub LeadsTo-twice : (work back after : Work S) (old new : List BatchView) (st : S) → Carried steps work back → Carried steps back after → received after.ends.filled ≡ new → new ≡ old → LeadsTo steps after new st → LeadsTo steps work old st
  LeadsTo-twice work back after old new st first second all same leads =
      LeadsTo-carried work back second.ran old st first (sym second.took ∙ all ∙ same) (LeadsTo-settled back after old new st second all same leads)

  pub MayFail-twice : (work back after : Work S) (old new : List BatchView) → Carried steps work back → Carried steps back after → received after.ends.filled ≡ new → new ≡ old → MayFail after new → MayFail work old
  MayFail-twice work back after old new first second all same fails =
      MayFail-carried work back second.ran old first (sym second.took ∙ all ∙ same) (MayFail-settled back after old new second all same fails)

  -- a work that has nothing left leads to its own driver, and to no other state
  pub LeadsTo-own : (work : Work S) (batches : List BatchView) → received work.ends.filled ≡ batches → work.failed ≡ false → LeadsTo steps work batches work.driver
  LeadsTo-own work batches all sound = (sound, subst (λ (bs : List (List Spelled)). RunAll steps work.driver bs work.driver) (sym (left_of-none work batches all)) refl)

  pub LeadsTo-only : (work : Work S) (batches : List BatchView) (st : S) → received work.ends.filled ≡ batches → LeadsTo steps work batches st → st ≡ work.driver
  LeadsTo-only work batches st all (sound, run) = subst (λ (bs : List (List Spelled)). RunAll steps work.driver bs st) (left_of-none work batches all) run

  pub MayFail-none : (work : Work S) (batches : List BatchView) → received work.ends.filled ≡ batches → work.failed ≡ false → ¬ MayFail work batches
  MayFail-none work batches all sound (inl failed) = absurd (cc)
  MayFail-none work batches all sound (inr have) = subst HaveCall (left_of-none work batches all) have refl

  -- one more batch that is sent is one more that is carried out
  LeadsTo-sent : (work : Work S) (batches : List BatchView) (batch : BatchView) (st : S) → length (received work.ends.filled) ≤ length batches → LeadsTo steps work (batches ++ batch ∷ []) st
      → (mid : S) × LeadsTo steps work batches mid × Run steps mid batch.calls st
  LeadsTo-sent work batches batch st within (sound, run) =
      let last = RunAll-last steps work.driver st (left_of work batches) batch.calls (subst (λ (bs : List (List Spelled)). RunAll steps work.driver bs st) (left_of-push work batches batch within) run) in
      (last.0, (sound, last.1), last.2)

  RunsFrom-sent : (stands : S → Type 0) (batch : BatchView) (st : S) → ((mid : S) × stands mid × Run steps mid batch.calls st) → RunsFrom stands steps batch.calls st
  RunsFrom-sent stands batch st last = record { start = last.0; may_start = last.1; run = last.2 }

  module _ {H : Type 0} (was : H → Work S) where
    pub StandsFor-sent : (stage : Option (Stage S H)) (caller : CallerEnds) (batches : List BatchView) (batch : BatchView) (st : S) → IsHome was stage caller → batches ≡ sent caller.filled ++ batch ∷ []
        → StandsFor steps was stage batches st → RunsFrom (StandsFor steps was stage (sent caller.filled)) steps batch.calls st
    StandsFor-sent None caller batches batch st home is stands = absurd home
    StandsFor-sent (Some (Home work)) caller batches batch st home is stands =
        RunsFrom-sent (StandsFor steps was (Some (Home work)) (sent caller.filled)) batch st (LeadsTo-sent work (sent caller.filled) batch st home.within (subst (λ (bs : List BatchView). LeadsTo steps work bs st) is stands))
    StandsFor-sent (Some (Away worker)) caller batches batch st home is stands =
        RunsFrom-sent (StandsFor steps was (Some (Away worker)) (sent caller.filled)) batch st (LeadsTo-sent (was worker) (sent caller.filled) batch st home.within (subst (λ (bs : List BatchView). LeadsTo steps (was worker) bs st) is stands))
    StandsFor-sent (Some (Taken ends)) caller batches batch st home is stands = absurd home

either_of : {P Q R : Type 0} → Q ⊎ R → (P ⊎ Q) ⊎ R
either_of (inl q) = inl (inr q)
either_of (inr r) = inr r

MayFail-sent : {S : Type 0} (work : Work S) (batches : List BatchView) (batch : BatchView) → length (received work.ends.filled) ≤ length batches → MayFail work (batches ++ batch ∷ []) → MayFail work batches ⊎ (batch.calls ≢ [])
MayFail-sent work batches batch within (inl failed) = inl (inl failed)
MayFail-sent work batches batch within (inr have) = either_of (HaveCall-others (left_of work batches) batch.calls (subst HaveCall (left_of-push work batches batch within) have))

pub SameCaller-now : (caller : CallerEnds) → SameCaller caller caller
SameCaller-now caller = record { filled = ((refl, refl, refl, refl), refl); emptied = ((refl, refl, refl, refl), refl); size = refl }

SameWorker-now : (worker : WorkerEnds) → SameWorker worker worker
SameWorker-now worker = record { filled = ((refl, refl, refl, refl), refl); emptied = ((refl, refl, refl, refl), refl); size = refl }

IsWorkOf-sent : {S : Type 0} (caller after : CallerEnds) (batch : BatchView) (work : Work S) → IsWorkOf caller work → SameCaller caller after → sent after.filled ≡ sent caller.filled ++ batch ∷ [] → IsWorkOf after work
IsWorkOf-sent caller after batch work home same is = record {
  fellows = AreFellows-later caller after work.ends work.ends home.fellows same (SameWorker-now work.ends);
  within = omega (arith, home.within, ap length is, length-append (sent caller.filled) (batch ∷ []));
}

-- a work that has all is a caller's
pub IsWorkOf-all : {S : Type 0} (caller : CallerEnds) (work : Work S) → AreFellows caller work.ends → received work.ends.filled ≡ sent caller.filled → IsWorkOf caller work
IsWorkOf-all caller work fellows all = record { fellows = fellows; within = omega (arith, ap length all) }

module _ {S H : Type 0} (was : H → Work S) where
  pub FailsBy-sent : (stage : Option (Stage S H)) (caller : CallerEnds) (batches : List BatchView) (batch : BatchView) → IsHome was stage caller → batches ≡ sent caller.filled ++ batch ∷ []
      → FailsBy was stage batches → FailsBy was stage (sent caller.filled) ⊎ (batch.calls ≢ [])
  FailsBy-sent None caller batches batch home is fails = absurd home
  FailsBy-sent (Some (Home work)) caller batches batch home is fails = MayFail-sent work (sent caller.filled) batch home.within (subst (λ (bs : List BatchView). MayFail work bs) is fails)
  FailsBy-sent (Some (Away worker)) caller batches batch home is fails = MayFail-sent (was worker) (sent caller.filled) batch home.within (subst (λ (bs : List BatchView). MayFail (was worker) bs) is fails)
  FailsBy-sent (Some (Taken ends)) caller batches batch home is fails = absurd home

  -- a caller that sends one more batch still has its work
  pub IsHome-sent : (stage : Option (Stage S H)) (caller after : CallerEnds) (batch : BatchView) → IsHome was stage caller → SameCaller caller after → sent after.filled ≡ sent caller.filled ++ batch ∷ [] → IsHome was stage after
  IsHome-sent None caller after batch home same is = absurd home
  IsHome-sent (Some (Home work)) caller after batch home same is = IsWorkOf-sent caller after batch work home same is
  IsHome-sent (Some (Away worker)) caller after batch home same is = IsWorkOf-sent caller after batch (was worker) home same is
  IsHome-sent (Some (Taken ends)) caller after batch home same is = absurd home
