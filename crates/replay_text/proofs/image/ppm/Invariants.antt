-- what stands and the rows that are left are the image
use Rattle.std.proofs.Common.{◌≡◌, ◌+◌, ◌*◌, ◌++◌, length}
use Rattle.replay_text.specs.Ppm.{ppm_head, ppm_of, rows_from_top}
use Rattle.replay_text.proofs.image.ppm.Given as goal

abbrev pub invariant-rows : goal.invariant-rows
invariant-rows l = record {
  whole : l.image.items ++ rows_from_top l.width l.row l.pixels ≡ ppm_of l.width l.height l.pixels;
  same_room : l.image.room ≡ length (ppm_head l.width l.height) + 3 * (l.width * l.height);
}
