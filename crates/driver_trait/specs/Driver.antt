-- What a driver is: states with a tracked part, a relation that says what a call may do to them, and laws of the relation; own.
use Rattle.std.specs.Prelude.{◌≡◌, ℤ, ◌↔◌, false, List, [], ◌∷◌, Some}
use Rattle.gl_words.specs.Call.{IsInRange, is_answering}
use Rattle.gl_words.specs.declared.call.Call.{Call}
use Rattle.gl_memory.specs.Segment.{Segment, AreBytes}
use Rattle.gl_tracked.specs.declared.tracked.Tracked.{Tracked}
use Rattle.gl_tracked.specs.Reads.{AgreesOn}
use Rattle.gl_tracked.specs.Step.{tracked_after, reads_of, number_asked}
use Rattle.driver_trait.specs.Reply.{Replied, Nothing, Numbers}

-- a call on a memory may lead from a state to a state, with a reply; own
abbrev pub Steps : Type 0 → Type 1
Steps S = S → Call → List Segment → S → Replied → Type 0

module _ {S : Type 0} (tracked : S → Tracked) (steps : Steps S) where
  -- a call does the same on memories that agree where it reads; own
  abbrev pub ReadsAlone : Type 0
  ReadsAlone = (st : S) (call : Call) (m n : List Segment) (st2 : S) (reply : Replied) → IsInRange call → AreBytes m → AreBytes n
      → AgreesOn m n (reads_of (tracked st) call m) → (steps st call m st2 reply ↔ steps st call n st2 reply)

  -- a call leaves the tracked part that the table gives; own
  abbrev pub Follows : Type 0
  Follows = (st : S) (call : Call) (m : List Segment) (st2 : S) (reply : Replied) → IsInRange call → AreBytes m
      → steps st call m st2 reply → tracked st2 ≡ tracked_after (tracked st) call m

  -- a call that asks for a number of the tracked part changes nothing, and replies that number; own
  abbrev pub Answers : Type 0
  Answers = (st : S) (call : Call) (m : List Segment) (number : ℤ) (st2 : S) (reply : Replied) → IsInRange call → AreBytes m
      → number_asked (tracked st) call ≡ Some number → (steps st call m st2 reply ↔ ((st2 ≡ st) × (reply ≡ Numbers (number ∷ []))))

  -- only calls that ask for something are answered; own
  abbrev pub Replies : Type 0
  Replies = (st : S) (call : Call) (m : List Segment) (st2 : S) (reply : Replied) → IsInRange call → AreBytes m
      → is_answering call ≡ false → steps st call m st2 reply → reply ≡ Nothing

  -- the laws of drivers; own
  pub record IsDriver : Type 0 where
    pub reads_alone : ReadsAlone
    pub follows : Follows
    pub answers : Answers
    pub replies : Replies
