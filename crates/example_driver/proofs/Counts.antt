-- Two clears and a get of their count, made at a front over a rail that was just launched: what is told, and the driver that comes back.
use Rattle.std.proofs.Common.{◌≡◌, ℕ, ◌+◌, ◌<◌, pos, List, [], ◌∷◌, Option, None, refl, sym, ap, subst, ◌∙◌, arith}
use Rattle.std.specs.Prelude.{is_some}
use Rattle.std.proofs.lemmas.Bool.{true≢false}
use Rattle.std.proofs.lemmas.Bool.Decides.{nat_tests}
use Rattle.gl_words.specs.Call.{is_answering}
use Rattle.gl_words.specs.declared.call.Call.{Call}
use Rattle.gl_words.specs.declared.call.Call.TheVariants.{Clear, GetIntegerv}
use Rattle.gl_memory.specs.Segment.{Segment}
use Rattle.gl_tracked.specs.Fault.{fault_of, is_known_mask, is_among}
use Rattle.gl_tracked.specs.Gets.{integer_asked, mode_rows, array_rows, buffer_rows}
use Rattle.gl_tracked.specs.Step.{number_asked}
use Rattle.driver_trait.specs.declared.reply.Reply.{Reply}
use Rattle.driver_trait.specs.Reply.{Replied, Numbers}
use Rattle.batch_pack.specs.Spelling.{Spelled}
use Rattle.batch_rail.specs.Run.{RunsFrom}
use Rattle.gl_front.specs.Front.{FrontView, new_front}
use Rattle.gl_front.specs.Taking.{Flushes, TakesCall}
use Rattle.example_driver.specs.declared.counter.Counter.{Counter}
use Rattle.example_driver.specs.Counter.{CounterSteps, first_counter}

-- a clear of the colour buffer counts
clear_counts : (st st2 : Counter) (memory : List Segment) (reply : Replied) → st.clears < 0x7FFFFFFF → CounterSteps st (Clear 0x4000) memory st2 reply → st2.clears ≡ st.clears + 1
unfolding number_asked fault_of is_known_mask
clear_counts st st2 memory reply few step = ap (λ (s : Counter). s.clears) (step.0) ∙ grind (arith, nat_tests)

-- the get of the count gives it, and leaves it
count_is_told : (st st2 : Counter) (memory : List Segment) (reply : Replied) (params : ℕ) → CounterSteps st (GetIntegerv 0x0D33 params) memory st2 reply → (st2.clears ≡ st.clears) × (reply ≡ Numbers (pos st.clears ∷ []))
unfolding number_asked fault_of integer_asked mode_rows array_rows buffer_rows is_among
count_is_told st st2 memory reply params step = (ap (λ (s : Counter). s.clears) (step.0), step.1)

-- a get of an integer asks for something, so that a front gives a reply
pub a_get_has_a_reply : (given : Option Reply) (pname params : ℕ) → is_some given ≡ is_answering (GetIntegerv pname params) → given ≡ None → ⊥
unfolding is_answering
a_get_has_a_reply given pname params asked none = true≢false (sym asked ∙ ap is_some none)

starts_at_none : (st start : Counter) → st ≡ start → start ≡ first_counter → st.clears ≡ 0
starts_at_none st start same first = ap (λ (s : Counter). s.clears) (same ∙ first)

two_more : (none one two : ℕ) → none ≡ 0 → one ≡ none + 1 → two ≡ one + 1 → two ≡ 2
two_more none one two is_none is_one is_two = omega arith

told_after : (before after : ℕ) (count : Replied) → before ≡ 2 → after ≡ before → count ≡ Numbers (pos before ∷ []) → (count ≡ Numbers (pos 2 ∷ [])) × (after ≡ 2)
told_after before after count two same told = (told ∙ ap (λ (n : ℕ). Numbers (pos n ∷ [])) two, same ∙ two)

module _ {R : Type 0} (stands : R → Counter → Type 0) (fails : R → Type 0) (tells : R → Option (List (List Spelled))) (sends : R → ℕ) where
  abbrev Takes : FrontView R → FrontView R → Call → Replied → Type 0
  Takes old new call reply = TakesCall stands fails tells sends CounterSteps old new call reply

  pub two_are_told : (rail back : R) (size : ℕ) (memory more : List ℕ) (front written one two three done : FrontView R) (reply again count : Replied) (params : ℕ) (driver : Counter)
      → front ≡ new_front rail size memory → written ≡ record front { memory = more } → ((st : Counter) → stands rail st → st ≡ first_counter)
      → Takes written one (Clear 0x4000) reply → Takes one two (Clear 0x4000) again → Takes two three (GetIntegerv 0x0D33 params) count
      → Flushes stands fails tells sends CounterSteps three done → back ≡ done.rail → stands back driver
      → (count ≡ Numbers (pos 2 ∷ [])) × (driver.clears ≡ 2)
  two_are_told rail back size memory more front written one two three done reply again count params driver is_new is_written only first second third flush is_back at_end =
      let A : List Spelled → Type 0 = λ l. RunsFrom (stands done.rail) CounterSteps l driver in
      let home : stands done.rail driver = subst (λ (r : R). stands r driver) is_back at_end in
      let idle : RunsFrom (stands done.rail) CounterSteps [] driver = record { start = driver; may_start = home; run = refl } in
      let counted = third.carries driver (flush.no_more driver (subst A (sym flush.ends.open_batch) idle)) in
      let cleared = second.carries counted.0 counted.1 in
      let opened = first.carries cleared.0 cleared.1 in
      let new : RunsFrom (stands rail) CounterSteps [] opened.0 = subst (λ (f : FrontView R). RunsFrom (stands f.rail) CounterSteps f.calls opened.0) (is_written ∙ ap (λ (f : FrontView R). record f { memory = more }) is_new) opened.1 in
      let none = starts_at_none opened.0 new.start new.run (only new.start new.may_start) in
      let after_one = clear_counts opened.0 cleared.0 _ reply (omega arith) opened.2 in
      let after_two = clear_counts cleared.0 counted.0 _ again (omega arith) cleared.2 in
      let told = count_is_told counted.0 driver _ count params counted.2 in
      let two_counted = two_more opened.0.clears cleared.0.clears counted.0.clears none after_one after_two in
      told_after counted.0.clears driver.clears count two_counted told.0 told.1
