use Rattle.std.proofs.Common.{◌≡◌, ◌+◌, ◌*◌, ◌++◌, length}
use Rattle.replay_text.specs.Ppm.{cells_from_top, ppm_of_cells}
use Rattle.replay_text.proofs.image.ppm_of_cells.Given as goal

-- what stands and the rows that are left are the image, for which there is room
abbrev pub invariant-rows : goal.invariant-rows
invariant-rows l = record {
  whole : l.image.items ++ cells_from_top l.width l.row l.cells ≡ ppm_of_cells l.width l.height l.cells;
  fits : length l.image.items + 3 * (l.width * l.row) ≡ l.image.room;
}
