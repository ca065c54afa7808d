use Rattle.std.proofs.Common.{◌+◌, ℕ, refl, sym, ap, ◌∙◌, length, arith}
use Rattle.gl_memory.specs.ClientMemory.{memory_of}
use Rattle.gl_memory.specs.Piece.{cut}
use Rattle.driver_trait.specs.Output.{memory_after}
use Rattle.driver_trait.specs.Reply.{Nothing}
use Rattle.client_shadow.specs.declared.class.Class.{Class}
use Rattle.client_shadow.proofs.Capturing.{AreBytes-cut}
use Rattle.client_shadow.proofs.Classes.{is_answering-defer}
use Rattle.batch_rail.proofs.Journals.{Gains-along}
use Rattle.gl_front.specs.Front.{FrontView, counts_after, ended_batches}
use Rattle.gl_front.specs.FrontState.{open_calls}
use Rattle.gl_front.proofs.Captures.{captured-agrees, captured-short, ended_by-issued, open_by-issued}
use Rattle.gl_front.proofs.Failures.{FailsOnlyBy-along}
use Rattle.gl_front.proofs.Fronts.{carries_put_off, knows_on}
use Rattle.gl_front.proofs.Takings.{counts_after-defer}
use Rattle.gl_front.proofs.front.Core.put_off.Goals as goal

pub put_off-sent-requires-clause-heading : goal.put_off-sent-requires-clause-heading
put_off-sent-requires-clause-heading g c κs live = rw (← c.self.view_is) at c.requires.heading

pub put_off-sent-requires-clause-fits : goal.put_off-sent-requires-clause-fits
put_off-sent-requires-clause-fits g c κs live =
    let class = rw (← c.self.view_is) at c.requires.class in
    let are = rw (← c.self.view_is) at c.requires.pieces in
    let heading = rw (← c.self.view_is) at c.requires.heading in
    let short = captured-short c.self.inside.shadow c.args.call.now c.self.inside.memory (g.R.RailState.size c.self.inside.rail) c.args.pieces.now are class in
    omega (arith, heading.slots, short)

pub returns-clause-taken : goal.returns-clause-taken
unfolding memory_after
returns-clause-taken g c =
    let class = rw (← c.self.view_is) at c.requires.class in
    let are = rw (← c.self.view_is) at c.requires.pieces in
    let front : FrontView g.row.R.Denot = record { rail = c.self.inside.rail; size = g.R.RailState.size c.self.inside.rail; calls = open_calls c.self.inside.batch; memory = c.self.inside.memory; tracked = c.self.inside.shadow; refused = c.self.inside.refused; counts = c.self.inside.counts } in
    let ended = ended_by-issued c.self.inside.shadow c.args.call.now c.self.inside.memory (g.R.RailState.size c.self.inside.rail) c.args.pieces.now are class (open_calls c.self.inside.batch) in
    let carries = carries_put_off g.R.RailState.stands g.D.Machine.tracked g.D.Machine.steps g.D.Machine.laws front.rail c.put_off-sent.new.rail (open_calls c.self.inside.batch) (open_calls c.self.inside.batch) (open_calls c.put_off-sent.new.open_batch) c.self.inside.memory c.self.inside.shadow c.args.call.now
    (cut c.args.pieces.now (memory_of c.self.inside.memory)) c.requires.in_range c.bytes.ensures.small (AreBytes-cut c.args.pieces.now c.self.inside.memory c.bytes.ensures.small)
    (captured-agrees c.self.inside.shadow c.args.call.now c.self.inside.memory _ c.args.pieces.now are class)
    (is_answering-defer c.self.inside.shadow c.args.call.now (memory_of c.self.inside.memory) _ class) refl c.self.invariant.1 c.put_off-sent.ensures.stands in
    rw (← c.self.view_is)
    (record {
      carries = carries;
      tracked = c.note.ensures;
      memory = refl;
      open_batch = c.put_off-sent.ensures.calls ∙ open_by-issued c.self.inside.shadow c.args.call.now c.self.inside.memory (g.R.RailState.size c.self.inside.rail) c.args.pieces.now are class (open_calls c.self.inside.batch);
      counts = counts_after-defer front.counts _ _ (c.put_off-sent.ensures.count ∙ ap length ended) ∙ ap (λ (k : Class). counts_after front.counts k (length (ended_batches front c.args.call.now))) (sym class);
      journal = Gains-along _ _ _ _ ended c.put_off-sent.ensures.journal;
      sent = c.put_off-sent.ensures.sent ∙ ap (λ (n : ℕ). g.R.RailState.sent front.rail + n) (c.put_off-sent.ensures.count ∙ ap length ended);
      failed = FailsOnlyBy-along _ _ _ _ ended c.put_off-sent.ensures.failed;
      kept = λ other none. c.put_off-sent.ensures.kept (ended ∙ none);
      mark = refl;
      size = c.put_off-sent.ensures.rail_size;
    })

pub invariant_of-self : goal.invariant_of-self
invariant_of-self g c =
    let class = rw (← c.self.view_is) at c.requires.class in
    let are = rw (← c.self.view_is) at c.requires.pieces in
    let carries = carries_put_off g.R.RailState.stands g.D.Machine.tracked g.D.Machine.steps g.D.Machine.laws c.self.inside.rail c.put_off-sent.new.rail (open_calls c.self.inside.batch) (open_calls c.self.inside.batch) (open_calls c.put_off-sent.new.open_batch) c.self.inside.memory c.self.inside.shadow c.args.call.now
    (cut c.args.pieces.now (memory_of c.self.inside.memory)) c.requires.in_range c.bytes.ensures.small (AreBytes-cut c.args.pieces.now c.self.inside.memory c.bytes.ensures.small)
    (captured-agrees c.self.inside.shadow c.args.call.now c.self.inside.memory _ c.args.pieces.now are class)
    (is_answering-defer c.self.inside.shadow c.args.call.now (memory_of c.self.inside.memory) _ class) refl c.self.invariant.1 c.put_off-sent.ensures.stands in (
      c.put_off-sent.ensures.ready,
      knows_on g.R.RailState.stands g.D.Machine.tracked g.D.Machine.steps g.D.Machine.laws c.self.inside.rail c.put_off-sent.new.rail (open_calls c.self.inside.batch) (open_calls c.put_off-sent.new.open_batch) c.self.inside.memory c.self.inside.shadow c.note.new.self c.args.call.now Nothing c.requires.in_range c.bytes.ensures.small c.self.invariant.1 carries c.note.ensures,
    )
