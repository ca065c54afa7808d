use Rattle.std.proofs.Common.{◌≡◌, ℕ, ◌+◌, ◌-◌, ◌*◌, ◌++◌, length, ap, sym, ◌∙◌, arith}
use Rattle.gl_memory.specs.Room.{RoomView}
use Rattle.replay_text.specs.Ppm.{cells_from_top, ppm_of_cells}
use Rattle.replay_text.proofs.PpmLemmas.{cells_fit, cells_written}
use Rattle.replay_text.proofs.image.ppm_of_cells.Goals as goal

pub rows-preserved : goal.rows-preserved
rows-preserved c =
    let cells = c.args.cells.now in
    let width = c.args.width in
    let below = c.rows.row - 1 in
    let items = c.rows.image.items in
    let written =
    cells_written items cells c.cells_of.result.now (ppm_of_cells width c.args.height cells) width c.rows.row below (omega arith) c.cells_of.ensures.row c.rows.invariant.whole in
    let fit = cells_fit (length items) width c.rows.row below c.rows.image.room (omega arith) c.rows.invariant.fits in
    let long : length c.put_cells.new.image.items ≡ length items + 3 * width = c.put_cells.ensures.long ∙ ap (λ (n : ℕ). length items + 3 * n) c.cells_of.ensures.long in
    record {
      whole = ap (λ (image : RoomView ℕ). image.items ++ cells_from_top width below cells) c.put_cells.ensures.put ∙ written;
      fits = ap (λ (n : ℕ). n + 3 * (width * below)) long ∙ fit ∙ sym (ap (λ (image : RoomView ℕ). image.room) c.put_cells.ensures.put);
    }
