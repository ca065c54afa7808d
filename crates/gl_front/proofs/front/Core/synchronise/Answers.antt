use Rattle.std.proofs.Common.{◌≡◌, ℕ, [], List, refl, ap, sym, subst, ◌∙◌}
use Rattle.std.specs.Prelude.{MatchOption}
use Rattle.gl_memory.specs.Segment.{AreBytes}
use Rattle.gl_memory.specs.ClientMemory.{memory_of}
use Rattle.batch_pack.specs.Batch.{IsBatchSize}
use Rattle.driver_trait.specs.Reply.{replied}
use Rattle.gl_front.specs.Front.{FrontView}
use Rattle.gl_front.specs.FrontState.{open_calls}
use Rattle.gl_front.proofs.Fronts.{carries_with_none, knows_on}
use Rattle.gl_front.proofs.Takings.{takes-sync, waits-sync}
use Rattle.gl_front.proofs.front.Core.synchronise.Goals as goal

pub take_reply-requires-clause-silent : goal.take_reply-requires-clause-silent
take_reply-requires-clause-silent g c =
    λ unanswered.
    let same : c.self-2.inside.memory ≡ c.self.inside.memory = ap (λ (f : FrontView g.row.R.Denot). f.memory) c.self-2.view_is ∙ c.flush_by.ensures.flushed.ends.memory ∙ sym (ap (λ (f : FrontView g.row.R.Denot). f.memory) c.self.view_is) in
    let bytes = subst (λ (bytes : List ℕ). AreBytes (memory_of bytes)) (sym same) c.bytes.ensures.small in
    let replies = rw c.in-Ok.is at c.carry_out-carried.ensures.replied in
    g.D.Machine.laws.replies (replies.0) c.args.call.now (memory_of c.self-2.inside.memory) (replies.1) (replied c.in-Ok.reply) c.requires.in_range bytes unanswered (replies.3)

pub returns-in-Ok-clause-ok : goal.returns-in-Ok-clause-ok
returns-in-Ok-clause-ok g c =
    let flushes = rw (← c.self-2.view_is) at c.flush_by.ensures.flushed in
    let at_once = rw c.in-Ok.is at c.carry_out-carried.ensures.ok in
    let sound = rw c.in-Ok.is at c.carry_out-carried.ensures.sound in
    rw c.take_reply.ensures.given (takes-sync g.R.RailState.stands g.D.Machine.tracked g.R.RailState.failed g.R.RailState.journal g.R.RailState.sent g.D.Machine.steps c.args.self.now _ c.args.call.now (replied c.in-Ok.reply) c.requires.class flushes
    c.carry_out-carried.new.rail (g.R.RailState.size c.carry_out-carried.new.rail) c.take_reply.new.shadow c.take_reply.new.memory at_once
    c.carry_out-carried.ensures.journal c.carry_out-carried.ensures.sent sound c.carry_out-carried.ensures.size c.take_reply.ensures.tracked c.take_reply.ensures.memory)

pub returns-in-Ok-clause-waited : goal.returns-in-Ok-clause-waited
returns-in-Ok-clause-waited g c =
    let flushes = rw (← c.self-2.view_is) at c.flush_by.ensures.flushed in
    let replies = rw c.in-Ok.is at c.carry_out-carried.ensures.replied in
    let sound = rw c.in-Ok.is at c.carry_out-carried.ensures.sound in
    rw c.take_reply.ensures.given (waits-sync g.R.RailState.stands g.D.Machine.tracked g.R.RailState.failed g.R.RailState.journal g.R.RailState.sent g.D.Machine.steps c.args.self.now _ c.args.call.now (replied c.in-Ok.reply) c.requires.class flushes
    c.carry_out-carried.new.rail replies sound _ refl)

pub invariant_of-self : goal.invariant_of-self
invariant_of-self g c =
    let none : open_calls c.self-2.inside.batch ≡ [] = ap (λ (f : FrontView g.row.R.Denot). f.calls) c.self-2.view_is ∙ c.flush_by.ensures.flushed.ends.open_batch in
    let same : c.self-2.inside.memory ≡ c.self.inside.memory = ap (λ (f : FrontView g.row.R.Denot). f.memory) c.self-2.view_is ∙ c.flush_by.ensures.flushed.ends.memory ∙ sym (ap (λ (f : FrontView g.row.R.Denot). f.memory) c.self.view_is) in
    let bytes = subst (λ (bytes : List ℕ). AreBytes (memory_of bytes)) (sym same) c.bytes.ensures.small in
    let at_once = rw c.in-Ok.is at c.carry_out-carried.ensures.ok in
    let carries = carries_with_none g.R.RailState.stands g.D.Machine.tracked g.D.Machine.steps c.self-2.inside.rail c.carry_out-carried.new.rail (open_calls c.self-2.inside.batch) c.self-2.inside.memory c.args.call.now (replied c.in-Ok.reply) none at_once in (
      record {
        at_home = c.carry_out-carried.ensures.home;
        batch_size = subst IsBatchSize (sym c.carry_out-carried.ensures.size) c.self-2.invariant.0.batch_size;
        is_there = subst (λ (n : ℕ). MatchOption c.self-2.inside.batch ⊥ (λ b. b.size ≡ n)) (sym c.carry_out-carried.ensures.size) c.self-2.invariant.0.is_there;
      },
      knows_on g.R.RailState.stands g.D.Machine.tracked g.D.Machine.steps g.D.Machine.laws c.self-2.inside.rail c.carry_out-carried.new.rail (open_calls c.self-2.inside.batch) (open_calls c.self-2.inside.batch) c.self-2.inside.memory c.self-2.inside.shadow c.take_reply.new.shadow c.args.call.now (replied c.in-Ok.reply) c.requires.in_range bytes c.self-2.invariant.1 carries c.take_reply.ensures.tracked,
    )
