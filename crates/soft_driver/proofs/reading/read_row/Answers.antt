use Rattle.std.proofs.Common.{ℕ, pos, ◌<ℤ◌, ◌≤ℤ◌, List, ◌++◌, sym, ap, ◌∙◌, arith}
use Rattle.std.proofs.lemmas.Int.{ints}
use Rattle.gl_memory.specs.Room.{RoomView}
use Rattle.soft_driver.proofs.Readings.{row_read-above, row_read-below}
use Rattle.soft_driver.proofs.reading.read_row.Goals as goal

-- bytes with more behind them
abbrev with_more : RoomView ℕ → List ℕ → RoomView ℕ
with_more b more = record b { items = b.items ++ more }

pub returns-then-row-lt0-clause-read : goal.returns-then-row-lt0-clause-read
returns-then-row-lt0-clause-read c =
    let below : c.args.row <ℤ pos 0 = grind (arith, ints) in
    c.add_zeros.ensures.added ∙ ap (with_more c.args.bytes.now) (sym (row_read-below c.args.frame.now c.args.x c.args.row c.args.width below))

pub returns-then-from-row-clause-read : goal.returns-then-from-row-clause-read
returns-then-from-row-clause-read c =
    let above : pos c.args.frame.now.height ≤ℤ c.args.row = grind (arith, ints) in
    c.add_zeros-then-from-row.ensures.added ∙ ap (with_more c.args.bytes.now) (sym (row_read-above c.args.frame.now c.args.x c.args.row c.args.width above))
