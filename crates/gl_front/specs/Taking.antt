-- What a call to a front leaves of it, by what a rail means: for which states it stands, where it may have failed, its journal, and how many batches were sent; own.
use Rattle.std.specs.Prelude.{◌≡◌, ◌≢◌, ℕ, ◌+◌, ◌⊎◌, ℤ, true, false, List, [], ◌∷◌, length, Option, Some}
use Rattle.gl_words.specs.declared.call.Call.{Call}
use Rattle.gl_memory.specs.ClientMemory.{memory_of}
use Rattle.gl_tracked.specs.Step.{number_asked, tracked_after}
use Rattle.driver_trait.specs.Driver.{Steps}
use Rattle.driver_trait.specs.Output.{memory_after}
use Rattle.driver_trait.specs.Reply.{Replied, Nothing, Numbers}
use Rattle.batch_pack.specs.Spelling.{Spelled}
use Rattle.client_shadow.specs.declared.class.Class.TheVariants.{Answer, Sync, Defer}
use Rattle.client_shadow.specs.Cutting.{batch_unless_empty}
use Rattle.batch_rail.specs.Rail.{Gains, StandsForNoMore}
use Rattle.gl_front.specs.Front.{FrontView, StandsFor, CarriesOut, MayReply, FailsOnlyBy, AllRiseLittle, class_at, ended_batches, batch_after, counts_after, counts_flushed}

-- whatever a call gives, each count rises by at most two and never falls, the rail sent as many batches as the front counted, and their size stays; own
pub record KeepsCount {R : Type 0} (sends : R → ℕ) (old new : FrontView R) : Type 0 where
  pub counts : AllRiseLittle old.counts new.counts
  pub sent : sends new.rail + old.counts.batches ≡ sends old.rail + new.counts.batches
  pub size : new.size ≡ old.size

-- a call was answered at once, with the number that is known, and the rail wasn't touched; own
pub record IsAnswered {R : Type 0} (old new : FrontView R) (call : Call) (reply : Replied) : Type 0 where
  pub number : (number : ℤ) × (number_asked old.tracked call ≡ Some number) × (reply ≡ Numbers (number ∷ []))
  pub rail : new.rail ≡ old.rail

module _ {R : Type 0} (tells : R → Option (List (List Spelled))) (sends : R → ℕ) where
  -- the open batch was submitted unless it was empty, and nothing else was counted, told or written; own
  pub record EndsBatch (old new : FrontView R) : Type 0 where
    pub open_batch : new.calls ≡ []
    pub counts : new.counts ≡ counts_flushed old.counts (length (batch_unless_empty old.calls))
    pub journal : Gains (tells old.rail) (tells new.rail) (batch_unless_empty old.calls)
    pub sent : sends new.rail ≡ sends old.rail + length (batch_unless_empty old.calls)
    pub memory : new.memory ≡ old.memory
    pub tracked : new.tracked ≡ old.tracked
    pub size : new.size ≡ old.size

module _ {R S : Type 0} (stands : R → S → Type 0) (fails : R → Type 0) (steps : Steps S) where
  -- a call waited: it was answered from a state stood for, and the rail hasn't failed; own
  pub record HasWaited (old new : FrontView R) (call : Call) (reply : Replied) : Type 0 where
    pub replied : MayReply stands steps old call reply
    pub sound : ¬ fails new.rail

  -- what a call of each class gives beside what every call does: one that is put off gives nothing, and no call forgets a refusal; own
  pub record IsIssued (old new : FrontView R) (call : Call) (reply : Replied) : Type 0 where
    pub answered : class_at old call ≡ Answer → IsAnswered old new call reply
    pub put_off : class_at old call ≡ Defer → reply ≡ Nothing
    pub waited : class_at old call ≡ Sync → HasWaited old new call reply
    pub unmarked : new.refused ≡ false

module _ {R S : Type 0} (stands : R → S → Type 0) (fails : R → Type 0) (tells : R → Option (List (List Spelled))) (sends : R → ℕ) (steps : Steps S) where
  -- a front took a call with this reply: it carries the call out, noted it and wrote its reply; batches ended where they are cut, and the rail was touched only where one did or the call waits; own
  pub record TakesCall (old new : FrontView R) (call : Call) (reply : Replied) : Type 0 where
    pub carries : CarriesOut stands steps old new call reply
    pub tracked : new.tracked ≡ tracked_after old.tracked call (memory_of old.memory)
    pub memory : new.memory ≡ memory_after old.tracked call reply old.memory
    pub open_batch : new.calls ≡ batch_after old call
    pub counts : new.counts ≡ counts_after old.counts (class_at old call) (length (ended_batches old call))
    pub journal : Gains (tells old.rail) (tells new.rail) (ended_batches old call)
    pub sent : sends new.rail ≡ sends old.rail + length (ended_batches old call)
    pub failed : FailsOnlyBy (fails old.rail) (fails new.rail) (ended_batches old call)
    pub kept : class_at old call ≢ Sync → ended_batches old call ≡ [] → new.rail ≡ old.rail
    pub mark : new.refused ≡ old.refused
    pub size : new.size ≡ old.size

  -- a front submitted its open batch: no state was added, and the rail may have failed only where it may have before, or where there was a call; own
  pub record Flushes (old new : FrontView R) : Type 0 where
    pub ends : EndsBatch tells sends old new
    pub no_more : StandsForNoMore (StandsFor stands steps old) (StandsFor stands steps new)
    pub failed : fails new.rail → fails old.rail ⊎ (old.calls ≢ [])
    pub mark : new.refused ≡ old.refused

  -- a front refused a call: no state was added, only a call that waits meets the first refusal, which submits the open batch and does no more, and it isn't forgotten; own
  pub record RefusesCall (old new : FrontView R) (call : Call) : Type 0 where
    pub no_more : StandsForNoMore (StandsFor stands steps old) (StandsFor stands steps new)
    pub waits : class_at old call ≢ Sync → old.refused ≡ true
    pub stops : old.refused ≡ false → EndsBatch tells sends old new
    pub failed : fails new.rail → fails old.rail ⊎ (old.calls ≢ [])
    pub mark : new.refused ≡ true
