use Rattle.std.proofs.Common.{◌≡◌, ℕ, suc, List, ◌++◌, ◌+◌, ◌*◌, ◌≤◌, length, length-append, sym, ap, ◌∙◌, arith}
use Rattle.std.proofs.Math.Nat.{mul-le-mul_right}
use Rattle.gl_memory.specs.Piece.{bytes_from}
use Rattle.gl_state.specs.Images.{rows_from}
use Rattle.gl_state.proofs.ImageRows.{length-bytes_from, rows_from-more}
use Rattle.gl_state.proofs.images.rows_from.Goals as goal

pub add_row-requires-clause-room : goal.add_row-requires-clause-room
add_row-requires-clause-room g c =
    let row = c.loop-row.row in
    let run = c.args.run in
    let one_more : suc row * run ≤ c.args.rows * run = mul-le-mul_right run (omega arith) in
    omega (arith, one_more, c.loop-row.invariant.many, c.loop-row.invariant.room)

pub add_row-requires-clause-low : goal.add_row-requires-clause-low
add_row-requires-clause-low g c =
    let row = c.loop-row.row in
    let pitch = c.args.pitch in
    let most : row * pitch ≤ 256 * pitch = mul-le-mul_right pitch (omega arith) in
    let same : c.from-in-loop-row-2.result * c.from-in-loop-row-3.result ≡ row * pitch = cc (c.from-in-loop-row-2.ensures, c.from-in-loop-row-3.ensures) in
    omega (arith, most, same)

pub loop-row-preserved : goal.loop-row-preserved
loop-row-preserved g c =
    let memory = g.M.Memory.segments c.args.memory.now in
    let before = c.loop-row.invariant in
    let row = c.loop-row.row in
    let so_far = rows_from memory c.args.source c.args.pitch c.args.run row in
    let begin : ℕ = c.from-in-loop-row.result + c.from-in-loop-row-2.result * c.from-in-loop-row-3.result in
    let begun : begin ≡ c.args.source + row * c.args.pitch = cc (c.from-in-loop-row.ensures, c.from-in-loop-row-2.ensures, c.from-in-loop-row-3.ensures) in
    let added =
    c.add_row.ensures.items
    ∙ ap (λ (bytes : List ℕ). bytes ++ bytes_from memory begin c.args.run) before.items
    ∙ ap (λ (at : ℕ). so_far ++ bytes_from memory at c.args.run) begun in
    record {
      items = added ∙ sym (rows_from-more memory c.args.source c.args.pitch c.args.run row);
      many = omega (arith, ap length c.add_row.ensures.items, length-append c.loop-row.bytes.items (bytes_from memory begin c.args.run), length-bytes_from memory begin c.args.run, before.many);
      room = c.add_row.ensures.room ∙ before.room;
    }
