-- What a call of a class leaves of a front: its batches, its counts, and that it is taken.
use Rattle.std.proofs.Common.{◌≡◌, ℕ, ◌+◌, inl, List, [], length, Option, refl, ap, sym, subst, ◌∙◌, arith}
use Rattle.std.proofs.lemmas.List.{append-nil}
use Rattle.gl_words.specs.declared.call.Call.{Call}
use Rattle.gl_memory.specs.ClientMemory.{memory_of}
use Rattle.gl_tracked.specs.declared.tracked.Tracked.{Tracked}
use Rattle.gl_tracked.specs.Step.{tracked_after}
use Rattle.driver_trait.specs.Driver.{Steps}
use Rattle.driver_trait.specs.Output.{memory_after}
use Rattle.driver_trait.specs.Reply.{Replied}
use Rattle.batch_pack.specs.Spelling.{Spelled}
use Rattle.client_shadow.specs.declared.class.Class.{Class}
use Rattle.client_shadow.specs.declared.class.Class.TheVariants.{Answer, Sync, Defer}
use Rattle.client_shadow.specs.Cutting.{batch_unless_empty}
use Rattle.client_shadow.proofs.Batching.{ended_at-answer, ended_at-sync, open_after-answer, open_after-sync}
use Rattle.batch_rail.specs.Rail.{Gains}
use Rattle.batch_rail.specs.Run.{RunsFrom}
use Rattle.batch_rail.proofs.Journals.{Gains-along, Gains-none, Gains-then}
use Rattle.gl_front.specs.declared.counts.Counts.{Counts}
use Rattle.gl_front.specs.Front.{FrontView, class_at, issued_by, ended_batches, batch_after, counts_after, counts_flushed}
use Rattle.gl_front.specs.Taking.{HasWaited, TakesCall, Flushes}
use Rattle.gl_front.proofs.Captures.{class-issued_at}
use Rattle.gl_front.proofs.Fronts.{carries_at_once, replies_at_once}

module _ {R : Type 0} (front : FrontView R) (call : Call) where
  class-issued_by : (class : Class) → class_at front call ≡ class → (issued_by front call).class ≡ class
  class-issued_by class is = class-issued_at front.tracked call (memory_of front.memory) front.size ∙ is

  -- a call that is answered ends no batch and joins none
  pub ended_batches-answer : class_at front call ≡ Answer → ended_batches front call ≡ []
  ended_batches-answer class = ended_at-answer front.size front.calls (issued_by front call) (class-issued_by Answer class)

  pub batch_after-answer : class_at front call ≡ Answer → batch_after front call ≡ front.calls
  batch_after-answer class = open_after-answer front.size front.calls (issued_by front call) (class-issued_by Answer class)

  -- before a call that waits the open batch ends, and none is open after it
  pub ended_batches-sync : class_at front call ≡ Sync → ended_batches front call ≡ batch_unless_empty front.calls
  ended_batches-sync class = ended_at-sync front.size front.calls (issued_by front call) (class-issued_by Sync class)

  pub batch_after-sync : class_at front call ≡ Sync → batch_after front call ≡ []
  batch_after-sync class = open_after-sync front.size front.calls (issued_by front call) (class-issued_by Sync class)

  -- the counts after a call of a class at which these batches ended
  pub counts_after-class : (class : Class) (ended : List (List Spelled)) → class_at front call ≡ class → ended_batches front call ≡ ended
      → counts_after front.counts class (length ended) ≡ counts_after front.counts (class_at front call) (length (ended_batches front call))
  counts_after-class class ended is are =
      ap (λ (k : Class). counts_after front.counts k (length ended)) (sym is)
      ∙ ap (λ (l : List (List Spelled)). counts_after front.counts (class_at front call) (length l)) (sym are)

-- the counts after a call that is answered
pub counts_after-answer : (counts : Counts) → record counts { answered = counts.answered + 1 } ≡ counts_after counts Answer 0
counts_after-answer counts =
    let more : counts.batches ≡ counts.batches + 0 = omega arith in
    let P : ℕ → Counts = λ n. record { deferred = counts.deferred; synchronised = counts.synchronised; answered = counts.answered + 1; batches = n } in
    ap P more

-- the counts after a call that waits, where these are the counts after the open batch was submitted
pub counts_after-sync : (flushed counts : Counts) (ended : ℕ) → flushed ≡ counts_flushed counts ended → record flushed { synchronised = flushed.synchronised + 1 } ≡ counts_after counts Sync ended
counts_after-sync flushed counts ended is = let P : Counts → Counts = λ k. record k { synchronised = k.synchronised + 1 } in ap P is

-- the counts after a call that is put off
pub counts_after-defer : (counts : Counts) (sent ended : ℕ) → sent ≡ ended → record counts { deferred = counts.deferred + 1; batches = counts.batches + sent } ≡ counts_after counts Defer ended
counts_after-defer counts sent ended same = ap (counts_after counts Defer) same

module _ {R S : Type 0} (stands : R → S → Type 0) (tracked : S → Tracked) (fails : R → Type 0) (tells : R → Option (List (List Spelled))) (sends : R → ℕ) (steps : Steps S) where
  -- a call that was answered, noted and written is taken
  pub takes-answer : (old : FrontView R) (call : Call) (reply : Replied) (noted : Tracked) (memory : List ℕ) → class_at old call ≡ Answer
      → ((st2 : S) → RunsFrom (stands old.rail) steps old.calls st2 → (st : S) × RunsFrom (stands old.rail) steps old.calls st × steps st call (memory_of old.memory) st2 reply)
      → noted ≡ tracked_after old.tracked call (memory_of old.memory) → memory ≡ memory_after old.tracked call reply old.memory
      → TakesCall stands fails tells sends steps old (record old { memory = memory; tracked = noted; counts = record old.counts { answered = old.counts.answered + 1 } }) call reply
  takes-answer old call reply noted memory class carries is_noted is_written =
      let ended = ended_batches-answer old call class in
      let none : length (ended_batches old call) ≡ 0 = ap length ended in
      record {
        carries = carries;
        tracked = is_noted;
        memory = is_written;
        open_batch = sym (batch_after-answer old call class);
        counts = counts_after-answer old.counts ∙ counts_after-class old call Answer [] class ended;
        journal = Gains-none (tells old.rail) (ended_batches old call) ended;
        sent = omega (arith, none);
        failed = λ failed. inl failed;
        kept = λ other no_batch. refl;
        mark = refl;
        size = refl;
      }

  module _ (old here : FrontView R) (call : Call) (reply : Replied) (class : class_at old call ≡ Sync) (flushes : Flushes stands fails tells sends steps old here) (rail : R) where
    -- a call that was carried out by the rail, noted and written is taken, the open batch having been submitted before
    pub takes-sync : (size : ℕ) (noted : Tracked) (memory : List ℕ)
        → ((st2 : S) → stands rail st2 → (st : S) × stands here.rail st × steps st call (memory_of here.memory) st2 reply)
        → Gains (tells here.rail) (tells rail) [] → sends rail ≡ sends here.rail → ¬ fails rail → size ≡ here.size
        → noted ≡ tracked_after here.tracked call (memory_of here.memory) → memory ≡ memory_after here.tracked call reply here.memory
        → TakesCall stands fails tells sends steps old (record here { rail = rail; size = size; memory = memory; tracked = noted; counts = record here.counts { synchronised = here.counts.synchronised + 1 } }) call reply
    takes-sync size noted memory at_once told sent sound same_size is_noted is_written =
        let ended = ended_batches-sync old call class in
        record {
          carries = carries_at_once stands tracked steps old here flushes.no_more flushes.ends.memory flushes.ends.open_batch call reply rail at_once;
          tracked = is_noted ∙ ap (λ (t : Tracked). tracked_after t call (memory_of here.memory)) flushes.ends.tracked ∙ ap (λ (bytes : List ℕ). tracked_after old.tracked call (memory_of bytes)) flushes.ends.memory;
          memory = is_written ∙ ap (λ (t : Tracked). memory_after t call reply here.memory) flushes.ends.tracked ∙ ap (λ (bytes : List ℕ). memory_after old.tracked call reply bytes) flushes.ends.memory;
          open_batch = flushes.ends.open_batch ∙ sym (batch_after-sync old call class);
          counts = counts_after-sync here.counts old.counts (length (batch_unless_empty old.calls)) flushes.ends.counts ∙ counts_after-class old call Sync (batch_unless_empty old.calls) class ended;
          journal = Gains-along _ _ _ _ (append-nil (batch_unless_empty old.calls) ∙ sym ended) (Gains-then _ _ _ _ _ flushes.ends.journal told);
          sent = sent ∙ flushes.ends.sent ∙ ap (λ (l : List (List Spelled)). sends old.rail + length l) (sym ended);
          failed = λ failed. absurd (sound failed);
          kept = λ other no_batch. absurd (other class);
          mark = flushes.mark;
          size = same_size ∙ flushes.ends.size;
        }

    -- and it waited
    pub waits-sync : ((st : S) × (st2 : S) × stands here.rail st × steps st call (memory_of here.memory) st2 reply) → ¬ fails rail → (new : FrontView R) → new.rail ≡ rail
        → HasWaited stands fails steps old new call reply
    waits-sync replied sound new same_rail = record {
      replied = replies_at_once stands tracked steps old here flushes.no_more flushes.ends.memory flushes.ends.open_batch call reply replied;
      sound = λ failed. sound (subst fails same_rail failed);
    }
