use Rattle.std.proofs.Common.{ap, sym, ◌∙◌, arith}
use Rattle.gl_memory.specs.Segment.{Segment, byte_in}
use Rattle.gl_memory.proofs.SlotBytes.{byte_in-lent, byte_in-lent_before, byte_in-lent_behind}
use Rattle.gl_memory.proofs.lent.Lent.byte.Goals as goal
use Rattle.gl_memory.proofs.lent.Lent.byte.Goals.{then-at-self-via-then-at-self, then-at-self-via-else-at-self+then-at-self-2}

pub returns-then-at-self : goal.returns-then-at-self
returns-then-at-self c =
    let l = c.self.inside in
    let same = ap (λ (s : Segment). byte_in s c.args.at) c.self.view_is in
    elim c.then-at-self.branch [
      | then-at-self-via-then-at-self w ↦ sym (byte_in-lent_before l.start l.len l.slots.now l.skip c.self.invariant c.args.at w.if-at-self.true) ∙ same
      | then-at-self-via-else-at-self+then-at-self-2 w ↦ sym (byte_in-lent_behind l.start l.len l.slots.now l.skip c.self.invariant c.args.at w.if-at-self.false w.if-at-self-2.true) ∙ same
    ]

pub returns : goal.returns
returns c =
    let l = c.self.inside in
    let inside = byte_in-lent l.start l.len l.slots.now l.skip c.self.invariant c.args.at c.if-at-self.false (omega arith) in
    sym c.byte_of.ensures ∙ sym inside ∙ ap (λ (s : Segment). byte_in s c.args.at) c.self.view_is
