use Rattle.std.proofs.Common.{ℕ, List, [], ◌∷◌, ◌++◌, ◌+◌, length, length-append, sym, ap, ◌∙◌}
use Rattle.gl_tracked.specs.Names.{names_at}
use Rattle.gl_tracked.proofs.Deleting.{names_at-more}
use Rattle.gl_state.proofs.ask.names_at.Goals as goal

pub loop-number-preserved : goal.loop-number-preserved
loop-number-preserved g c =
    let memory = g.M.Memory.segments c.args.memory.now in
    let so_far = names_at memory c.args.place c.loop-number.number in
    let before = c.loop-number.invariant in
    record {
      items =
          c.push_reserved.ensures.items
          ∙ ap (λ (names : List ℕ). names ++ c.name_at.result ∷ []) before.items
          ∙ ap (λ (name : ℕ). so_far ++ name ∷ []) c.name_at.ensures
          ∙ sym (names_at-more memory c.args.place c.loop-number.number);
      many = ap length c.push_reserved.ensures.items ∙ length-append c.loop-number.names.items (c.name_at.result ∷ []) ∙ ap (λ (n : ℕ). n + 1) before.many;
      room = c.push_reserved.ensures.capacity ∙ before.room;
    }
