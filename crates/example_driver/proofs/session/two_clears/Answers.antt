use Rattle.std.proofs.Common.{◌≡◌, true, None, pos, [], ◌∷◌, Option, ap, subst, ◌∙◌}
use Rattle.std.specs.Prelude.{IsSome}
use Rattle.gl_words.specs.declared.call.Call.TheVariants.{GetIntegerv}
use Rattle.gl_tracked.specs.declared.tracked.Tracked.{Tracked}
use Rattle.driver_trait.specs.declared.reply.Reply.{Reply}
use Rattle.driver_trait.specs.Reply.{Replied, Numbers, replied}
use Rattle.gl_front.specs.Front.{FrontView}
use Rattle.gl_front.specs.Given.{given_by}
use Rattle.gl_front.specs.Taking.{TakesCall}
use Rattle.batch_rail.specs.Maker.{IsLaunched}
use Rattle.batch_rail.specs.Rail.{HasDriver}
use Rattle.batch_rail.specs.declared.inline.InlineRail.{InlineRail}
use Rattle.example_driver.specs.declared.counter.Counter.{Counter}
use Rattle.example_driver.specs.Counter.{CounterSteps, tracked_of}
use Rattle.example_driver.proofs.Counts.{a_get_has_a_reply, two_are_told}
use Rattle.example_driver.proofs.session.two_clears.Given.{Over}
use Rattle.example_driver.proofs.session.two_clears.Goals.{Joined-none-9}
use Rattle.example_driver.proofs.session.two_clears.Goals as goal

pub new-requires-3 : goal.new-requires-3
new-requires-3 g c =
    let rail = c.in-Ok.rail in
    record {
      launched = subst (λ (first : Tracked). IsLaunched tracked_of (λ st. HasDriver rail.failed rail.driver st) (rail.failed ≡ true) (IsSome rail.driver) rail.slots first)
          (ap tracked_of c.new.ensures) c.in-Ok.ensures.ok;
    }

pub unreachable-requires : goal.unreachable-requires
unreachable-requires g c = a_get_has_a_reply c.in_ok-told.field-0 0x0D33 4 c.in_ok-told.ensures.asked c.in_default-2.is

told : (g : Over) (c : Joined-none-9 g) → (replied c.in-Some.told ≡ Numbers (pos 2 ∷ [])) × (c.in_ok-driver.driver.clears ≡ 2)
told g c =
    let taken : FrontView (InlineRail Counter) → FrontView (InlineRail Counter) → Replied → Type 0 = λ old new reply.
    TakesCall (λ rail st. HasDriver rail.failed rail.driver st) (λ rail. rail.failed ≡ true) (λ rail. None) (λ rail. rail.sent) CounterSteps old new (GetIntegerv 0x0D33 4) reply in
    two_are_told (λ rail st. HasDriver rail.failed rail.driver st) (λ rail. rail.failed ≡ true) (λ rail. None) (λ rail. rail.sent)
    c.in-Ok.rail c.into_parts-memory.result.0 c.in-Ok.rail.slots c.in_ok-memory.memory _ c.in-Ok-new.front c.write_memory.new.self c.issue.new.self c.issue-2.new.self c.issue-3.new.self c.finish.new.self
    (given_by c.in_ok-_none._none) (given_by c.in_ok-_again._again) (replied c.in-Some.told) 4 c.in_ok-driver.driver
    c.in-Ok-new.ensures.ok c.write_memory.ensures
    (λ st here. c.in-Ok.ensures.unused.only st here ∙ c.new.ensures)
    c.in_ok-_none.ensures.ok c.in_ok-_again.ensures.ok
    (subst (λ (given : Option Reply). taken c.issue-2.new.self c.issue-3.new.self (given_by given)) c.in-Some.is c.in_ok-told.ensures.ok)
    c.in_ok-finish.ensures.flushed c.into_parts-memory.ensures.rail c.in_ok-driver.ensures.ok

pub returns-clause-told : goal.returns-clause-told
returns-clause-told g c = (told g c).0

pub returns-clause-counted : goal.returns-clause-counted
returns-clause-counted g c = (told g c).1
