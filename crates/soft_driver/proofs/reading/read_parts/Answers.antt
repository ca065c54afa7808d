use Rattle.std.proofs.Common.{ℕ, ◌-◌, ◌*◌, ℤ, pos, List, ◌++◌, replicate, ap, subst, ◌∙◌, w32, to_z, of_z}
use Rattle.std.proofs.lemmas.Int.{to_z-of_z}
use Rattle.gl_memory.specs.Room.{RoomView}
use Rattle.soft_driver.specs.Pixels.{row_read}
use Rattle.soft_driver.specs.Reading.{columns_read, Divides}
use Rattle.soft_driver.proofs.Readings.{row_read-added}
use Rattle.soft_driver.proofs.reading.read_parts.Goals as goal

-- bytes with more behind them
abbrev with_more : List ℕ → RoomView ℕ → RoomView ℕ
with_more more b = record b { items = b.items ++ more }

pub returns-clause-read : goal.returns-clause-read
returns-clause-read c =
    let frame = c.args.frame.now in
    let x = to_z w32 (of_z w32 c.args.x) in
    let row = pos c.args.row in
    let old = c.args.bytes.now in
    let columns = c.divided-columns.result in
    let divided : Divides x frame.width c.args.width columns.first columns.until =
    subst (λ (side : ℕ). Divides x side c.args.width columns.first columns.until) c.width.ensures c.divided-columns.ensures in
    c.add_zeros-2.ensures.added
    ∙ ap (with_more (replicate (4 * (c.args.width - columns.until)) 0))
    (c.read_columns.ensures.read ∙ ap (with_more (columns_read frame x row columns.first (columns.until - columns.first))) c.add_zeros.ensures.added)
    ∙ ap (λ (items : List ℕ). record { items = items; room = old.room })
    (row_read-added frame x row old.items c.args.width columns.first columns.until divided
    ∙ ap (λ (z : ℤ). old.items ++ row_read frame z row c.args.width) (to_z-of_z w32 c.args.x c.ranges.x))
