-- How a front carries a call out: later, or at once behind all that were put off.
use Rattle.std.proofs.Common.{◌≡◌, ℕ, ℤ, false, List, [], ◌∷◌, ◌++◌, Some, refl, subst, sym, ap, ◌∙◌}
use Rattle.gl_words.specs.declared.call.Call.{Call}
use Rattle.gl_words.specs.Call.{IsInRange, is_answering}
use Rattle.gl_memory.specs.Segment.{Segment, AreBytes}
use Rattle.gl_memory.specs.ClientMemory.{memory_of}
use Rattle.batch_pack.specs.Spelling.{Spelled}
use Rattle.gl_tracked.specs.declared.tracked.Tracked.{Tracked}
use Rattle.driver_trait.specs.Driver.{Steps, IsDriver}
use Rattle.driver_trait.specs.Reply.{Replied, Nothing, Numbers}
use Rattle.gl_tracked.specs.Reads.{AgreesOn}
use Rattle.gl_tracked.specs.Step.{number_asked, reads_of, tracked_after}
use Rattle.batch_rail.specs.Run.{RunsFrom}
use Rattle.batch_rail.proofs.Runs.{RunsFrom-last, RunsFrom-append, RunsFrom-from_nil, starts_from_nil}
use Rattle.gl_front.specs.Front.{FrontView, StandsFor}

-- where the states reached by some calls were reached by others before, a call behind them is one behind the others
pub runs_on : {S : Type 0} (steps : Steps S) (old new : S → Type 0) (calls new_calls : List Spelled) (call : Spelled) → ((st : S) → RunsFrom new steps new_calls st → RunsFrom old steps calls st)
    → (st2 : S) → RunsFrom new steps (new_calls ++ call ∷ []) st2 → RunsFrom old steps (calls ++ call ∷ []) st2
runs_on {S} steps old new calls new_calls call leads st2 runs =
    let last = RunsFrom-last steps new new_calls call st2 runs in
    RunsFrom-append steps old (λ (st : S). RunsFrom new steps new_calls st) calls (call ∷ []) st2 leads
    (record { start = last.0; may_start = last.2; run = (st2, last.1, last.3, refl) })

module _ {R S : Type 0} (stands : R → S → Type 0) (tracked : S → Tracked) (steps : Steps S) where
  -- a call on segments that agree with memory where it reads is the call on memory
  pub captures_what_it_reads : IsDriver tracked steps → (st st2 : S) (call : Call) (memory : List ℕ) (segments : List Segment) (reply : Replied)
      → IsInRange call → AreBytes (memory_of memory) → AreBytes segments → AgreesOn (memory_of memory) segments (reads_of (tracked st) call (memory_of memory))
      → steps st call segments st2 reply → steps st call (memory_of memory) st2 reply
  captures_what_it_reads laws st st2 call memory segments reply in_range bytes small agrees step =
      (laws.reads_alone st call (memory_of memory) segments st2 reply in_range bytes small agrees).1 step

  -- a call that was put off is one that was carried out, with nothing as its reply: run later on segments that agree with memory where it reads
  pub carries_put_off : IsDriver tracked steps → (rail new_rail : R) (calls old_calls new_calls : List Spelled) (memory : List ℕ) (known : Tracked) (call : Call) (segments : List Segment)
      → IsInRange call → AreBytes (memory_of memory) → AreBytes segments → AgreesOn (memory_of memory) segments (reads_of known call (memory_of memory))
      → is_answering call ≡ false → calls ≡ old_calls → ((st : S) → RunsFrom (stands rail) steps old_calls st → tracked st ≡ known)
      → ((st2 : S) → RunsFrom (stands new_rail) steps new_calls st2 → RunsFrom (stands rail) steps (calls ++ record { call = call; segments = segments } ∷ []) st2)
      → (st2 : S) → RunsFrom (stands new_rail) steps new_calls st2 → (st : S) × RunsFrom (stands rail) steps old_calls st × steps st call (memory_of memory) st2 Nothing
  carries_put_off laws rail new_rail calls old_calls new_calls memory known call segments in_range bytes small agrees unanswered same_calls knows leads = λ st2 runs.
      let last = RunsFrom-last steps (stands rail) calls (record { call = call; segments = segments }) st2 (leads st2 runs) in
      let before = subst (λ (l : List Spelled). RunsFrom (stands rail) steps l (last.0)) same_calls (last.2) in
      let silent = laws.replies (last.0) call segments st2 (last.1) in_range small unanswered (last.3) in (
        last.0,
        before,
        captures_what_it_reads laws (last.0) st2 call memory segments Nothing in_range bytes small
            (subst (λ (t : Tracked). AgreesOn (memory_of memory) segments (reads_of t call (memory_of memory))) (sym (knows (last.0) before)) agrees)
            (subst (λ (reply : Replied). steps (last.0) call segments st2 reply) silent (last.3)),
      )

  -- a call that asks for tracked state is carried out by answering it, from each state that was stood for
  pub carries_answered : IsDriver tracked steps → (rail : R) (calls : List Spelled) (memory : List ℕ) (known : Tracked) (call : Call) (number : ℤ)
      → IsInRange call → AreBytes (memory_of memory) → ((st : S) → RunsFrom (stands rail) steps calls st → tracked st ≡ known) → number_asked known call ≡ Some number
      → (st2 : S) → RunsFrom (stands rail) steps calls st2 → (st : S) × RunsFrom (stands rail) steps calls st × steps st call (memory_of memory) st2 (Numbers (number ∷ []))
  carries_answered laws rail calls memory known call number in_range bytes knows asked = λ st2 runs.
      let asks = ap (λ (t : Tracked). number_asked t call) (knows st2 runs) ∙ asked in
      (st2, runs, (laws.answers st2 call (memory_of memory) number st2 (Numbers (number ∷ [])) in_range bytes asks).1 (refl, refl))

  -- where a call that was carried out was noted, the tracked part of each state that is stood for is known
  pub knows_on : IsDriver tracked steps → (rail new_rail : R) (calls new_calls : List Spelled) (memory : List ℕ) (known noted : Tracked) (call : Call) (reply : Replied)
      → IsInRange call → AreBytes (memory_of memory) → ((st : S) → RunsFrom (stands rail) steps calls st → tracked st ≡ known)
      → ((st2 : S) → RunsFrom (stands new_rail) steps new_calls st2 → (st : S) × RunsFrom (stands rail) steps calls st × steps st call (memory_of memory) st2 reply)
      → noted ≡ tracked_after known call (memory_of memory)
      → (st2 : S) → RunsFrom (stands new_rail) steps new_calls st2 → tracked st2 ≡ noted
  knows_on laws rail new_rail calls new_calls memory known noted call reply in_range bytes knows carries is_noted = λ st2 runs.
      let led = carries st2 runs in
      laws.follows (led.0) call (memory_of memory) st2 reply in_range bytes (led.2)
      ∙ ap (λ (t : Tracked). tracked_after t call (memory_of memory)) (knows (led.0) (led.1))
      ∙ sym is_noted

  -- with no call open, a call that is carried out by the rail is carried out by the front
  pub carries_with_none : (rail new_rail : R) (calls : List Spelled) (memory : List ℕ) (call : Call) (reply : Replied) → calls ≡ []
      → ((st2 : S) → stands new_rail st2 → (st : S) × stands rail st × steps st call (memory_of memory) st2 reply)
      → (st2 : S) → RunsFrom (stands new_rail) steps calls st2 → (st : S) × RunsFrom (stands rail) steps calls st × steps st call (memory_of memory) st2 reply
  carries_with_none rail new_rail calls memory call reply none at_once = λ st2 runs.
      let led = at_once st2 (starts_from_nil steps (stands new_rail) st2 (subst (λ (l : List Spelled). RunsFrom (stands new_rail) steps l st2) none runs)) in
      (led.0, RunsFrom-from_nil steps (stands rail) calls (led.0) none (led.1), led.2)

  module _ (old here : FrontView R) (no_more : (st : S) → StandsFor stands steps here st → StandsFor stands steps old st) (same_memory : here.memory ≡ old.memory) (none : here.calls ≡ [])
      (call : Call) (reply : Replied) where
    -- the same, from the states that were stood for before the open batch was submitted
    pub carries_at_once : (new_rail : R) → ((st2 : S) → stands new_rail st2 → (st : S) × stands here.rail st × steps st call (memory_of here.memory) st2 reply)
        → (st2 : S) → RunsFrom (stands new_rail) steps here.calls st2 → (st : S) × StandsFor stands steps old st × steps st call (memory_of old.memory) st2 reply
    carries_at_once new_rail at_once = λ st2 runs.
        let led = carries_with_none here.rail new_rail here.calls here.memory call reply none at_once st2 runs in
        (led.0, no_more (led.0) (led.1), subst (λ (bytes : List ℕ). steps (led.0) call (memory_of bytes) st2 reply) same_memory (led.2))

    -- and its reply is one from a state that was stood for
    pub replies_at_once : ((st : S) × (st2 : S) × stands here.rail st × steps st call (memory_of here.memory) st2 reply)
        → (st : S) × (st2 : S) × StandsFor stands steps old st × steps st call (memory_of old.memory) st2 reply
    replies_at_once (st, st2, stood, step) =
        (st, st2, no_more st (RunsFrom-from_nil steps (stands here.rail) here.calls st none stood), subst (λ (bytes : List ℕ). steps st call (memory_of bytes) st2 reply) same_memory step)
