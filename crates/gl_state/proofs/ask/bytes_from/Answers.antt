use Rattle.std.proofs.Common.{◌≡◌, ℕ, List, [], ◌∷◌, ◌++◌, ◌+◌, length, length-append, sym, ap, ◌∙◌}
use Rattle.gl_memory.specs.Piece.{bytes_from}
use Rattle.gl_memory.specs.Segment.{byte_at}
use Rattle.gl_state.proofs.Uploads.{bytes_from-more}
use Rattle.gl_state.proofs.ask.bytes_from.Goals as goal

pub loop-number-preserved : goal.loop-number-preserved
loop-number-preserved g c =
    let memory = g.M.Memory.segments c.args.memory.now in
    let so_far = bytes_from memory c.args.source c.loop-number.number in
    let before = c.loop-number.invariant in
    let read : c.byte.result ≡ byte_at memory (c.args.source + c.loop-number.number) = cc (c.byte.ensures, c.from.ensures, c.from-in-loop-number.ensures) in
    record {
      items =
          c.push_reserved.ensures.items
          ∙ ap (λ (bytes : List ℕ). bytes ++ c.byte.result ∷ []) before.items
          ∙ ap (λ (byte : ℕ). so_far ++ byte ∷ []) read
          ∙ sym (bytes_from-more memory c.args.source c.loop-number.number);
      many = ap length c.push_reserved.ensures.items ∙ length-append c.loop-number.bytes.items (c.byte.result ∷ []) ∙ ap (λ (n : ℕ). n + 1) before.many;
      room = c.push_reserved.ensures.capacity ∙ before.room;
    }
