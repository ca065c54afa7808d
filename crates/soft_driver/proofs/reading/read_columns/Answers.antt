use Rattle.std.proofs.Common.{◌≡◌, ℕ, ◌-◌, ℤ, pos, List, ◌++◌, ap, ◌∙◌, w32, to_z, of_z, arith}
use Rattle.std.proofs.lemmas.Int.{to_z-of_z}
use Rattle.gl_memory.specs.Room.{RoomView}
use Rattle.fragment_ops.specs.Frame.{pixel_at}
use Rattle.soft_driver.specs.Reading.{columns_read}
use Rattle.soft_driver.proofs.Readings.{columns_read-begun, columns_read-step}
use Rattle.soft_driver.proofs.reading.read_columns.Goals as goal

-- bytes with room for so many
abbrev roomy : ℕ → List ℕ → RoomView ℕ
roomy room items = record { items = items; room = room }

pub loop-at-init : goal.loop-at-init
loop-at-init c = record {
  read = ap (roomy c.args.bytes.now.room) (columns_read-begun c.args.frame.now (to_z w32 (of_z w32 c.args.x)) (pos c.args.row) c.args.bytes.now.items c.args.columns.first);
  long = omega arith;
}

pub loop-at-preserved : goal.loop-at-preserved
loop-at-preserved c =
    let frame = c.args.frame.now in
    let x = to_z w32 (of_z w32 c.args.x) in
    let row = pos c.args.row in
    let old = c.args.bytes.now in
    let first = c.args.columns.first in
    let so_far = old.items ++ columns_read frame x row first (c.loop-at.at - first) in
    record {
      read =
          c.add_pixel.ensures.added
          ∙ ap (λ (b : RoomView ℕ). record b { items = b.items ++ c.pixel.result }) c.loop-at.invariant.read
          ∙ ap (λ (pixel : List ℕ). roomy old.room (so_far ++ pixel)) (c.pixel.ensures ∙ ap (λ (column : ℤ). pixel_at frame column row) c.column_at.ensures)
          ∙ ap (roomy old.room) (columns_read-step frame x row old.items first c.loop-at.at c.loop-at.auto.at);
      long = omega arith;
    }

pub returns-clause-read : goal.returns-clause-read
returns-clause-read c =
    let old = c.args.bytes.now in
    let first = c.args.columns.first in
    let all : c.loop-at.at - first ≡ c.args.columns.until - first = omega arith in
    let row : ℤ → ℕ → RoomView ℕ = λ x count. roomy old.room (old.items ++ columns_read c.args.frame.now x (pos c.args.row) first count) in
    c.loop-at.invariant.read
    ∙ ap (λ (count : ℕ). row (to_z w32 (of_z w32 c.args.x)) count) all
    ∙ ap (λ (x : ℤ). row x (c.args.columns.until - first)) (to_z-of_z w32 c.args.x c.ranges.x)
