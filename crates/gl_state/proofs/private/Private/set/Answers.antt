use Rattle.std.proofs.Common.{sym, subst, ap, ◌∙◌}
use Rattle.gl_tracked.specs.declared.tracked.Tracked.{Tracked}
use Rattle.gl_tracked.specs.Fault.{fault_of}
use Rattle.gl_tracked.proofs.Stepping.{tracked_after-no_fault}
use Rattle.gl_state.specs.contracts.private.Private.{the_view}
use Rattle.gl_state.specs.Private.{PrivateView}
use Rattle.gl_state.specs.Settings.{AreAccepted}
use Rattle.gl_state.specs.Stacks.{depths_of}
use Rattle.gl_state.specs.declared.settings.Settings.{Settings}
use Rattle.gl_state.proofs.Accepting.{settings_set_by-accepted}
use Rattle.gl_state.proofs.Depths.{depths-set_by}
use Rattle.gl_state.proofs.Stepping.{private_after-parts}
use Rattle.gl_state.proofs.private.Private.set.Goals as goal

pub note-requires : goal.note-requires
note-requires g c = record { fault = sym (ap (λ (p : PrivateView). fault_of p.tracked c.args.call.now) c.self.view_is ∙ c.requires.no_fault) }

pub invariant_of-self : goal.invariant_of-self
invariant_of-self g c =
    let memory = g.M.Memory.segments c.args.memory.now in
    let no_fault = ap (λ (p : PrivateView). fault_of p.tracked c.args.call.now) c.self.view_is ∙ c.requires.no_fault in
    record {
      sound = c.note.ensures.sound c.self.invariant.sound;
      depths =
          ap (λ (tracked : Tracked). tracked.depths) (c.note.ensures.step ∙ tracked_after-no_fault c.self.inside.tracked c.args.call.now memory no_fault)
          ∙ depths-set_by c.self.inside.tracked c.self.inside.stacks c.self.invariant.sound c.self.invariant.depths c.args.call.now memory
          ∙ ap depths_of (sym c.set-2.ensures);
      clamped = c.set.ensures.clamped c.self.invariant.clamped;
      accepted =
          subst (λ (settings : Settings). AreAccepted settings) (sym c.set.ensures.set)
          (settings_set_by-accepted c.self.inside.tracked c.self.inside.settings c.args.call.now memory no_fault c.self.invariant.accepted);
    }

pub returns : goal.returns
returns g c =
    let memory = g.M.Memory.segments c.args.memory.now in
    let no_fault = ap (λ (p : PrivateView). fault_of p.tracked c.args.call.now) c.self.view_is ∙ c.requires.no_fault in
    rw (← c.self.view_is) (private_after-parts (the_view c.self.inside) c.args.call.now memory c.requires.no_query
    (c.note.ensures.step ∙ tracked_after-no_fault c.self.inside.tracked c.args.call.now memory no_fault) c.set-2.ensures c.set.ensures.set)
