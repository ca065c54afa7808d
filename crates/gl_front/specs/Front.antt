-- What contracts see of a front, and for which states of the driver it may stand; own. What a call leaves of it stands in Taking.antt.
use Rattle.std.specs.Prelude.{◌≡◌, ◌≢◌, ℕ, ◌+◌, ◌-◌, ◌^◌, ◌<◌, ◌≤◌, ◌⊎◌, Bool, false, List, []}
use Rattle.gl_words.specs.declared.call.Call.{Call}
use Rattle.gl_memory.specs.ClientMemory.{memory_of}
use Rattle.gl_tracked.specs.declared.tracked.Tracked.{Tracked}
use Rattle.gl_tracked.specs.Tracked.{first_tracked}
use Rattle.driver_trait.specs.Driver.{Steps}
use Rattle.driver_trait.specs.Reply.{Replied}
use Rattle.batch_pack.specs.Spelling.{Spelled}
use Rattle.client_shadow.specs.declared.class.Class.{Class}
use Rattle.client_shadow.specs.declared.class.Class.TheVariants.{Answer, Sync, Defer}
use Rattle.client_shadow.specs.Cutting.{Issued, ended_at, open_after}
use Rattle.client_shadow.specs.Class.{class_of, issued_at}
use Rattle.batch_rail.specs.Run.{RunsFrom}
use Rattle.gl_front.specs.declared.counts.Counts.{Counts}

-- a front: its rail, the size of its batches in slots, the calls of the open batch with what was captured for them, client memory, the tracked state that it keeps, whether an issue was refused, and its counts; own
pub record FrontView (R : Type 0) : Type 0 where
  pub rail : R
  pub size : ℕ
  pub calls : List Spelled
  pub memory : List ℕ
  pub tracked : Tracked
  pub refused : Bool
  pub counts : Counts

-- no counts yet; own
abbrev pub no_counts : Counts
no_counts = record { deferred = 0; synchronised = 0; answered = 0; batches = 0 }

-- a front over a rail with batches of this size and over client memory, with nothing done yet; own
abbrev pub new_front : {R : Type 0} → R → ℕ → List ℕ → FrontView R
new_front rail size memory = record { rail = rail; size = size; calls = []; memory = memory; tracked = first_tracked; refused = false; counts = no_counts }

-- a state for which a front may stand: one to which a state of its rail leads by the calls of the open batch; own
abbrev pub StandsFor : {R S : Type 0} → (R → S → Type 0) → Steps S → FrontView R → S → Type 0
StandsFor stands steps front st2 = RunsFrom (stands front.rail) steps front.calls st2

-- each state for which the new front may stand is one to which the call leads on client memory as it was, with this reply, from a state for which the old one may; own
abbrev pub CarriesOut : {R S : Type 0} → (R → S → Type 0) → Steps S → FrontView R → FrontView R → Call → Replied → Type 0
CarriesOut {R} {S} stands steps old new call reply = (st2 : S) → StandsFor stands steps new st2 → (st : S) × StandsFor stands steps old st × steps st call (memory_of old.memory) st2 reply

-- each state for which a front may stand has the tracked part that the front keeps; own
abbrev pub KnowsTracked : {R S : Type 0} → (S → Tracked) → (R → S → Type 0) → Steps S → FrontView R → Type 0
KnowsTracked {R} {S} tracked stands steps front = (st : S) → StandsFor stands steps front st → tracked st ≡ front.tracked

-- the class of a call that a front is asked to issue; own
abbrev pub class_at : {R : Type 0} → FrontView R → Call → Class
class_at front call = class_of front.tracked call (memory_of front.memory) front.size

-- a call as a front issues it; own
abbrev pub issued_by : {R : Type 0} → FrontView R → Call → Issued
issued_by front call = issued_at front.tracked call (memory_of front.memory) front.size

-- the batches that end where a front issues a call; own
abbrev pub ended_batches : {R : Type 0} → FrontView R → Call → List (List Spelled)
ended_batches front call = ended_at front.size front.calls (issued_by front call)

-- the open batch of a front that issued a call; own
abbrev pub batch_after : {R : Type 0} → FrontView R → Call → List Spelled
batch_after front call = open_after front.size front.calls (issued_by front call)

-- from a state for which the front may stand, the call leads somewhere on client memory, with this reply; own
abbrev pub MayReply : {R S : Type 0} → (R → S → Type 0) → Steps S → FrontView R → Call → Replied → Type 0
MayReply {R} {S} stands steps front call reply = (st : S) × (st2 : S) × StandsFor stands steps front st × steps st call (memory_of front.memory) st2 reply

-- a rail may have failed now only where it may have before, or where there is one of these batches; own
abbrev pub FailsOnlyBy : Type 0 → Type 0 → List (List Spelled) → Type 0
FailsOnlyBy old new batches = new → old ⊎ (batches ≢ [])

-- the counts after a call of a class, at which so many batches ended; own
abbrev pub counts_after : Counts → Class → ℕ → Counts
counts_after counts Answer ended = record counts { answered = counts.answered + 1; batches = counts.batches + ended }
counts_after counts Sync ended = record counts { synchronised = counts.synchronised + 1; batches = counts.batches + ended }
counts_after counts Defer ended = record counts { deferred = counts.deferred + 1; batches = counts.batches + ended }

-- the counts after batches that ended without a call; own
abbrev pub counts_flushed : Counts → ℕ → Counts
counts_flushed counts ended = record counts { batches = counts.batches + ended }

-- a count rises by at most two, and never falls; own
pub record RisesLittle (old new : ℕ) : Type 0 where
  pub never_falls : old ≤ new
  pub at_most_two : new ≤ old + 2

-- each count rises by at most two, and never falls; own
pub record AllRiseLittle (old new : Counts) : Type 0 where
  pub deferred : RisesLittle old.deferred new.deferred
  pub synchronised : RisesLittle old.synchronised new.synchronised
  pub answered : RisesLittle old.answered new.answered
  pub batches : RisesLittle old.batches new.batches

-- a number far enough below its type's end to be raised by a call; own
abbrev pub CanRise : ℕ → Type 0
CanRise count = count < 2 ^ 62 - 1

-- each count has room; own
pub record AllHaveRoom (counts : Counts) : Type 0 where
  pub deferred : CanRise counts.deferred
  pub synchronised : CanRise counts.synchronised
  pub answered : CanRise counts.answered
  pub batches : CanRise counts.batches
