-- Drivers that answer gets of tracked state first, and carry every other call out by functions of their own; own. No driver is named here.
use Rattle.std.specs.Prelude.{◌≡◌, ℤ, false, List, [], ◌∷◌, Option, Some, None}
use Rattle.gl_words.specs.Call.{is_answering}
use Rattle.gl_words.specs.declared.call.Call.{Call}
use Rattle.gl_memory.specs.Segment.{Segment}
use Rattle.gl_tracked.specs.declared.tracked.Tracked.{Tracked}
use Rattle.gl_tracked.specs.Reads.{AgreesOn}
use Rattle.gl_tracked.specs.Step.{tracked_after, reads_of, number_asked}
use Rattle.driver_trait.specs.Driver.{Steps}
use Rattle.driver_trait.specs.Reply.{Replied, Nothing, Numbers}

-- where a number of tracked state is asked for, nothing changes and that number is the reply; else the state and the reply are these; own
abbrev pub LeadsTo : {S : Type 0} → Option ℤ → S → S → Replied → S → Replied → Type 0
LeadsTo (Some number) st after reply st2 replied = (st2 ≡ st) × (replied ≡ Numbers (number ∷ []))
LeadsTo None st after reply st2 replied = (st2 ≡ after) × (replied ≡ reply)

module _ {S : Type 0} (tracked : S → Tracked) (after : S → Call → List Segment → S) (reply : S → Call → Replied) where
  -- the relation of such a driver; own
  abbrev pub AnswersFirst : Steps S
  AnswersFirst st call memory st2 replied = LeadsTo (number_asked (tracked st) call) st (after st call memory) (reply st call) st2 replied

  -- what its functions keep: the state depends on memory only where the call reads, its tracked part is that of the table, and a call that asks for nothing is replied nothing; own
  pub record CarriesOut : Type 0 where
    pub alone : (st : S) (call : Call) (m n : List Segment) → AgreesOn m n (reads_of (tracked st) call m) → after st call m ≡ after st call n
    pub table : (st : S) (call : Call) (memory : List Segment) → tracked (after st call memory) ≡ tracked_after (tracked st) call memory
    pub silent : (st : S) (call : Call) → is_answering call ≡ false → reply st call ≡ Nothing
