use Rattle.std.proofs.Common.{◌≡◌, ℕ, ◌+◌, ◌*◌, ℤ, pos, ◌+ℤ◌, List, ◌++◌, length, sym, ap, ◌∙◌, w32, w64, to_z, of_z, arith}
use Rattle.std.proofs.lemmas.Int.{ints}
use Rattle.gl_memory.specs.Room.{RoomView}
use Rattle.soft_driver.specs.Pixels.{bytes_read, row_read}
use Rattle.soft_driver.proofs.Readings.{bytes_read-more, bytes_read-none}
use Rattle.soft_driver.proofs.reading.read.Goals as goal

-- one more row of so many bytes
one_more : (rows bytes : ℕ) → rows * bytes + bytes ≡ (rows + 1) * bytes
one_more rows bytes = grind arith

no_rows : (bytes : ℕ) → 0 ≡ 0 * bytes
no_rows bytes = grind arith

pub loop-row-init : goal.loop-row-init
loop-row-init c =
    let none = bytes_read-none c.args.frame.now (to_z w32 (of_z w32 c.args.x)) (to_z w32 (of_z w32 c.args.y)) c.args.width in
    let made = c.in_ok-bytes.ensures in
    record {
      read = cc (made, none);
      long = ap (λ (b : RoomView ℕ). length b.items) made ∙ no_rows (4 * c.args.width);
    }

pub loop-row-preserved : goal.loop-row-preserved
loop-row-preserved c =
    let frame = c.args.frame.now in
    let x = to_z w32 (of_z w32 c.args.x) in
    let y = to_z w32 (of_z w32 c.args.y) in
    let width = c.args.width in
    let so_far = bytes_read frame x y width c.loop-row.row in
    let full = c.args.height * (4 * width) in
    let row_is : to_z w64 (of_z w64 (to_z w64 (of_z w64 c.from-in-loop-row.result) +ℤ to_z w64 (of_z w64 c.from-in-loop-row-2.result))) ≡ y +ℤ pos c.loop-row.row = omega (arith, ints) in
    let roomy : List ℕ → RoomView ℕ = λ items. record { items = items; room = full } in
    record {
      read =
          c.read_row.ensures.read
          ∙ ap (λ (row : ℤ). record c.loop-row.bytes { items = c.loop-row.bytes.items ++ row_read frame x row width }) row_is
          ∙ ap (λ (b : RoomView ℕ). record b { items = b.items ++ row_read frame x (y +ℤ pos c.loop-row.row) width }) c.loop-row.invariant.read
          ∙ ap roomy (sym (bytes_read-more frame x y width c.loop-row.row));
      long = c.read_row.ensures.long ∙ ap (λ (before : ℕ). before + 4 * width) c.loop-row.invariant.long ∙ one_more c.loop-row.row (4 * width);
    }
