use Rattle.std.proofs.Common.{◌≡◌, ℕ, List, [], ◌∷◌, ◌++◌, ◌+◌, length, length-append, refl, sym, ap, ◌∙◌, arith}
use Rattle.std.proofs.lemmas.List.{append-nil, append_assoc}
use Rattle.gl_memory.specs.Piece.{bytes_from}
use Rattle.gl_memory.specs.Segment.{byte_at}
use Rattle.gl_state.proofs.ImageRows.{bytes_from-none}
use Rattle.gl_state.proofs.Uploads.{bytes_from-more}
use Rattle.gl_state.proofs.images.add_row.Goals as goal

pub loop-number-init : goal.loop-number-init
loop-number-init g c =
    let memory = g.M.Memory.segments c.args.memory.now in
    record {
      items = sym (ap (λ (bytes : List ℕ). c.args.bytes.now.items ++ bytes) (bytes_from-none memory c.args.begin) ∙ append-nil c.args.bytes.now.items);
      many = omega arith;
      room = refl;
    }

pub loop-number-preserved : goal.loop-number-preserved
loop-number-preserved g c =
    let memory = g.M.Memory.segments c.args.memory.now in
    let others = c.args.bytes.now.items in
    let so_far = bytes_from memory c.args.begin c.loop-number.number in
    let before = c.loop-number.invariant in
    let read : c.byte.result ≡ byte_at memory (c.args.begin + c.loop-number.number) = cc (c.byte.ensures, c.from.ensures) in
    record {
      items =
          c.push_reserved.ensures.items
          ∙ ap (λ (bytes : List ℕ). bytes ++ c.byte.result ∷ []) before.items
          ∙ append_assoc others so_far (c.byte.result ∷ [])
          ∙ ap (λ (byte : ℕ). others ++ (so_far ++ byte ∷ [])) read
          ∙ ap (λ (bytes : List ℕ). others ++ bytes) (sym (bytes_from-more memory c.args.begin c.loop-number.number));
      many = omega (arith, ap length c.push_reserved.ensures.items, length-append c.loop-number.bytes.items (c.byte.result ∷ []), before.many);
      room = c.push_reserved.ensures.capacity ∙ before.room;
    }
