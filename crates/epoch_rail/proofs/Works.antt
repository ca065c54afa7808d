-- What a worker carries out, batch by batch.
use Rattle.std.proofs.Common.{◌≡◌, ◌≢◌, ℕ, ◌+◌, ◌⊎◌, inl, inr, Bool, true, false, List, [], ◌∷◌, ◌++◌, length, flat_map, Some, refl, sym, ap, subst, ◌∙◌, append-nil, append_assoc}
use Rattle.std.proofs.lemmas.List.{length-append, map-append}
use Rattle.std.proofs.lemmas.Grind.{flat_map-append}
use Rattle.std.specs.List.{slice_get}
use Rattle.rtrb.specs.Ring.{received, SameConsumer, SameProducer}
use Rattle.rtrb.specs.declared.consumer.Consumer.{Consumer}
use Rattle.rtrb.specs.declared.producer.Producer.{Producer}
use Rattle.batch_pack.specs.Batch.{BatchView}
use Rattle.batch_pack.specs.Spelling.{Spelled}
use Rattle.driver_trait.specs.Driver.{Steps}
use Rattle.batch_rail.specs.Run.{Run, RunFirst, StopsInside}
use Rattle.batch_rail.proofs.BatchRuns.{RunFirst-next, RunFirst-more, RunFirst-last}
use Rattle.epoch_rail.specs.Ends.{SameWorker, SameCaller}
use Rattle.epoch_rail.specs.declared.ends.WorkerEnds.{WorkerEnds}
use Rattle.epoch_rail.specs.declared.ends.CallerEnds.{CallerEnds}
use Rattle.epoch_rail.specs.Work.{calls_of, RunAll, HaveCall, CarriedOne, StopsAmong, Carried}
use Rattle.epoch_rail.specs.declared.work.Work.{Work}

-- the calls of one batch more
pub calls_of-push : (batches : List BatchView) (batch : BatchView) → calls_of (batches ++ batch ∷ []) ≡ calls_of batches ++ batch.calls ∷ []
unfolding calls_of
calls_of-push batches batch = map-append (λ (b : BatchView). b.calls) batches (batch ∷ [])

-- the calls of batches behind others
pub calls_of-append : (batches more : List BatchView) → calls_of (batches ++ more) ≡ calls_of batches ++ calls_of more
unfolding calls_of
calls_of-append batches more = map-append (λ (b : BatchView). b.calls) batches more

-- the batch behind others stands at their number
seam : (batches : List (List Spelled)) (batch : List Spelled) → slice_get (batches ++ batch ∷ []) (length batches) ≡ Some batch
seam [] batch = refl
seam (first ∷ batches) batch = seam batches batch

-- lists without elements together have none apart
nil_front : (xs ys : List Spelled) → xs ++ ys ≡ [] → xs ≡ []
nil_front [] ys none = refl
nil_front (x ∷ xs) ys none = absurd (cc)

nil_back : (xs ys : List Spelled) → xs ++ ys ≡ [] → ys ≡ []
nil_back [] ys none = none
nil_back (x ∷ xs) ys none = absurd (cc)

abbrev all_of : List (List Spelled) → List Spelled
all_of batches = flat_map (λ (calls : List Spelled). calls) batches

-- a call that the first batches have, all have
pub HaveCall-front : (batches more : List (List Spelled)) → HaveCall batches → HaveCall (batches ++ more)
HaveCall-front batches more have = λ none.
    have (nil_front (all_of batches) (all_of more) (sym (flat_map-append (λ (calls : List Spelled). calls) batches more) ∙ none))

-- so of the last one
pub HaveCall-last : (batches : List (List Spelled)) (batch : List Spelled) → batch ≢ [] → HaveCall (batches ++ batch ∷ [])
HaveCall-last batches batch have = λ none.
    have (nil_front batch [] (nil_back (all_of batches) (batch ++ []) (sym (flat_map-append (λ (calls : List Spelled). calls) batches (batch ∷ [])) ∙ none)))

-- where the last of some batches has no call, the others have one
pub HaveCall-others : (batches : List (List Spelled)) (batch : List Spelled) → HaveCall (batches ++ batch ∷ []) → HaveCall batches ⊎ (batch ≢ [])
HaveCall-others batches [] have = inl (λ none.
    have (flat_map-append (λ (calls : List Spelled). calls) batches ([] ∷ []) ∙ append-nil (all_of batches) ∙ none))
HaveCall-others batches (call ∷ calls) have = inr (λ none. absurd (cc))

-- the same end of the same ring, over two steps
pub SameConsumer-then : {T A P : Type 0} (one two three : Consumer T A P) → SameConsumer one two → SameConsumer two three → SameConsumer one three
SameConsumer-then one two three first second =
    ((second.0.0 ∙ first.0.0, second.0.1 ∙ first.0.1, second.0.2 ∙ first.0.2, second.0.3 ∙ first.0.3), second.1 ∙ first.1)

pub SameProducer-then : {T A P : Type 0} (one two three : Producer T A P) → SameProducer one two → SameProducer two three → SameProducer one three
SameProducer-then one two three first second =
    ((second.0.0 ∙ first.0.0, second.0.1 ∙ first.0.1, second.0.2 ∙ first.0.2, second.0.3 ∙ first.0.3), second.1 ∙ first.1)

pub SameWorker-then : (one two three : WorkerEnds) → SameWorker one two → SameWorker two three → SameWorker one three
SameWorker-then one two three first second = record {
  filled = SameConsumer-then one.filled two.filled three.filled first.filled second.filled;
  emptied = SameProducer-then one.emptied two.emptied three.emptied first.emptied second.emptied;
  size = second.size ∙ first.size;
}

pub SameCaller-then : (one two three : CallerEnds) → SameCaller one two → SameCaller two three → SameCaller one three
SameCaller-then one two three first second = record {
  filled = SameProducer-then one.filled two.filled three.filled first.filled second.filled;
  emptied = SameConsumer-then one.emptied two.emptied three.emptied first.emptied second.emptied;
  size = second.size ∙ first.size;
}

HaveCall-on : (failed : Bool) (ran : List BatchView) (batch : BatchView) → (failed ≡ true) ⊎ HaveCall (calls_of ran) → (failed ≡ true) ⊎ HaveCall (calls_of (ran ++ batch ∷ []))
HaveCall-on failed ran batch (inl before) = inl before
HaveCall-on failed ran batch (inr have) = inr (subst HaveCall (sym (calls_of-push ran batch)) (HaveCall-front (calls_of ran) (batch.calls ∷ []) have))

-- one that failed has a cause before the last batch, or in it
HaveCall-either : {mark : Bool} (failed : Bool) (ran : List BatchView) (batch : BatchView) → (mark ≡ true) ⊎ (batch.calls ≢ []) → (mark ≡ true → (failed ≡ true) ⊎ HaveCall (calls_of ran)) → (failed ≡ true) ⊎ HaveCall (calls_of (ran ++ batch ∷ []))
HaveCall-either failed ran batch (inr have) earlier = inr (subst HaveCall (sym (calls_of-push ran batch)) (HaveCall-last (calls_of ran) batch.calls have))
HaveCall-either failed ran batch (inl before) earlier = HaveCall-on failed ran batch (earlier before)

module _ {S : Type 0} (steps : Steps S) where
  -- one batch more is carried out
  pub RunAll-push : (start mid st2 : S) (batches : List (List Spelled)) (batch : List Spelled) → RunAll steps start batches mid → Run steps mid batch st2 → RunAll steps start (batches ++ batch ∷ []) st2
  RunAll-push start mid st2 batches batch first run =
      let one_more : length batches + 1 ≡ length (batches ++ batch ∷ []) = sym (length-append batches (batch ∷ [])) in
      subst (λ (n : ℕ). RunFirst steps start (batches ++ batch ∷ []) n st2) one_more
      (RunFirst-next steps start (batches ++ batch ∷ []) (length batches) mid batch st2 (RunFirst-more steps start batches (batch ∷ []) (length batches) mid first) (seam batches batch) run)

  -- the last of some batches leads from a state to which the others lead
  pub RunAll-last : (start st2 : S) (batches : List (List Spelled)) (batch : List Spelled) → RunAll steps start (batches ++ batch ∷ []) st2 → (mid : S) × RunAll steps start batches mid × Run steps mid batch st2
  RunAll-last start st2 batches batch runs =
      let one_more : length (batches ++ batch ∷ []) ≡ length batches + 1 = length-append batches (batch ∷ []) in
      RunFirst-last steps start batches batch st2 (subst (λ (n : ℕ). RunFirst steps start (batches ++ batch ∷ []) n st2) one_more runs)

  -- at first nothing was carried out
  pub Carried-none : (work : Work S) → Carried steps work work
  unfolding calls_of
  Carried-none work = record {
    ran = [];
    took = sym (append-nil (received work.ends.filled));
    same = record { filled = ((refl, refl, refl, refl), refl); emptied = ((refl, refl, refl, refl), refl); size = refl };
    runs = λ sound. (sound, refl);
    cause = λ failed. inl failed;
    stops = λ sound failed. absurd (cc);
    stays = λ failed. (failed, refl);
  }

  -- a worker that stopped among some batches stopped among more
  StopsAmong-push : (start here after : S) (batches : List (List Spelled)) (batch : List Spelled) → StopsAmong steps start batches here → after ≡ here → StopsAmong steps start (batches ++ batch ∷ []) after
  StopsAmong-push start here after batches batch stopped same = record {
    done = stopped.done;
    refused = stopped.refused;
    left_out = stopped.left_out ++ batch ∷ [];
    whole = ap (λ (bs : List (List Spelled)). bs ++ batch ∷ []) stopped.whole ∙ append_assoc stopped.done (stopped.refused ∷ stopped.left_out) (batch ∷ []);
    reached = stopped.reached;
    run = stopped.run;
    stops = subst (λ (st : S). StopsInside steps stopped.reached stopped.refused st) (sym same) stopped.stops;
  }

  -- one that stopped in the last batch stopped among all
  StopsAmong-last : (start mid here : S) (batches : List (List Spelled)) (batch : List Spelled) → RunAll steps start batches mid → StopsInside steps mid batch here → StopsAmong steps start (batches ++ batch ∷ []) here
  StopsAmong-last start mid here batches batch run stopped = record {
    done = batches;
    refused = batch;
    left_out = [];
    whole = refl;
    reached = mid;
    run = run;
    stops = stopped;
  }

  -- in the last batch, or before it
  StopsAmong-either : (start mid after : S) (failed mark fails : Bool) (batches : List (List Spelled)) (batch : List Spelled) → (mark ≡ false → (failed ≡ false) × RunAll steps start batches mid)
      → (failed ≡ false → mark ≡ true → StopsAmong steps start batches mid) → CarriedOne steps mark mid batch fails after → failed ≡ false → fails ≡ true → StopsAmong steps start (batches ++ batch ∷ []) after
  StopsAmong-either start mid after failed true fails batches batch runs stops one sound refused = StopsAmong-push start mid after batches batch (stops sound refl) ((one.stays refl).1)
  StopsAmong-either start mid after failed false fails batches batch runs stops one sound refused = StopsAmong-last start mid after batches batch ((runs refl).1) (one.stops refl refused)

  -- a worker carried out one batch more
  pub Carried-push : (start before after : Work S) (mid : WorkerEnds) (batch : BatchView) → Carried steps start before
      → received mid.filled ≡ received before.ends.filled ++ batch ∷ [] → SameWorker before.ends mid → after.ends.filled ≡ mid.filled → SameWorker mid after.ends
      → CarriedOne steps before.failed before.driver batch.calls after.failed after.driver → Carried steps start after
  Carried-push start before after mid batch carried took first filled second one = record {
    ran = carried.ran ++ batch ∷ [];
    took = ap received filled ∙ took ∙ ap (λ (l : List BatchView). l ++ batch ∷ []) carried.took ∙ append_assoc (received start.ends.filled) carried.ran (batch ∷ []);
    same = SameWorker-then start.ends before.ends after.ends carried.same (SameWorker-then before.ends mid after.ends first second);
    runs = λ sound.
        let last = one.runs sound in
        let others = carried.runs (last.0) in (
          others.0,
          subst (λ (bs : List (List Spelled)). RunAll steps start.driver bs after.driver) (sym (calls_of-push carried.ran batch))
              (RunAll-push start.driver before.driver after.driver (calls_of carried.ran) batch.calls (others.1) (last.1)),
        );
    cause = λ failed. HaveCall-either start.failed carried.ran batch (one.cause failed) carried.cause;
    stops = λ sound failed.
        subst (λ (bs : List (List Spelled)). StopsAmong steps start.driver bs after.driver) (sym (calls_of-push carried.ran batch))
        (StopsAmong-either start.driver before.driver after.driver start.failed before.failed after.failed (calls_of carried.ran) batch.calls carried.runs carried.stops one sound failed);
    stays = λ failed.
        let earlier = carried.stays failed in
        let last = one.stays (earlier.0) in
        (last.0, last.1 ∙ earlier.1);
  }

  -- or none
  pub Carried-same : (start before after : Work S) → Carried steps start before → received after.ends.filled ≡ received before.ends.filled → SameWorker before.ends after.ends
      → after.driver ≡ before.driver → after.failed ≡ before.failed → Carried steps start after
  Carried-same start before after carried took same driver failed = record {
    ran = carried.ran;
    took = took ∙ carried.took;
    same = SameWorker-then start.ends before.ends after.ends carried.same same;
    runs = λ sound. let all = carried.runs (sym failed ∙ sound) in (all.0, subst (λ (st : S). RunAll steps start.driver (calls_of carried.ran) st) (sym driver) (all.1));
    cause = λ fails. carried.cause (sym failed ∙ fails);
    stops = λ sound fails. subst (λ (st : S). StopsAmong steps start.driver (calls_of carried.ran) st) (sym driver) (carried.stops sound (sym failed ∙ fails));
    stays = λ fails. let all = carried.stays fails in (failed ∙ all.0, driver ∙ all.1);
  }
