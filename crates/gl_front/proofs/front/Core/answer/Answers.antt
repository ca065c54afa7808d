use Rattle.std.proofs.Common.{rules, ◌≡◌, [], ◌∷◌, Some, ap, sym, ◌∙◌, w64, to_z, of_z}
use Rattle.gl_memory.specs.ClientMemory.{memory_of}
use Rattle.driver_trait.specs.Reply.{Numbers}
use Rattle.driver_trait.specs.Output.{memory_after}
use Rattle.gl_tracked.specs.declared.tracked.Tracked.{Tracked}
use Rattle.gl_tracked.proofs.Stepping.{tracked_after-asked}
use Rattle.client_shadow.proofs.Classes.{class_of-number}
use Rattle.gl_front.specs.Front.{FrontView}
use Rattle.gl_front.specs.FrontState.{open_calls}
use Rattle.gl_front.proofs.Fronts.{carries_answered}
use Rattle.gl_front.proofs.Takings.{takes-answer}
use Rattle.gl_front.proofs.front.Core.answer.Goals as goal

pub returns-clause-taken : goal.returns-clause-taken
returns-clause-taken g c =
    let front : FrontView g.row.R.Denot = record { rail = c.self.inside.rail; size = g.R.RailState.size c.self.inside.rail; calls = open_calls c.self.inside.batch; memory = c.self.inside.memory; tracked = c.self.inside.shadow; refused = c.self.inside.refused; counts = c.self.inside.counts } in
    let asked = rw (← c.self.view_is) at c.requires.asked in
    let class = class_of-number c.self.inside.shadow c.args.call.now (memory_of c.self.inside.memory) (g.R.RailState.size c.self.inside.rail) c.args.number asked in
    let same : to_z w64 (of_z w64 c.args.number) ≡ c.args.number = search rules in
    let carries = carries_answered g.R.RailState.stands g.D.Machine.tracked g.D.Machine.steps g.D.Machine.laws front.rail front.calls front.memory front.tracked c.args.call.now (to_z w64 (of_z w64 c.args.number)) c.requires.in_range c.bytes.ensures.small c.self.invariant.1 (asked ∙ ap Some (sym same)) in
    rw (← c.self.view_is)
    (takes-answer g.R.RailState.stands g.D.Machine.tracked g.R.RailState.failed g.R.RailState.journal g.R.RailState.sent g.D.Machine.steps front c.args.call.now
    (Numbers (to_z w64 (of_z w64 c.args.number) ∷ [])) c.self.inside.shadow c.write_reply.new.memory class carries
    (sym (tracked_after-asked front.tracked c.args.call.now (memory_of front.memory) c.args.number asked))
    (c.write_reply.ensures ∙ ap (λ (t : Tracked). memory_after t c.args.call.now (Numbers (to_z w64 (of_z w64 c.args.number) ∷ [])) front.memory) c.tracked.ensures.tracked))
