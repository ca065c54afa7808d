-- what stands and the colours that are left are the whole, for which there is room
use Rattle.std.proofs.Common.{◌≡◌, ◌+◌, ◌≤◌, ◌++◌, length}
use Rattle.replay_text.specs.Ppm.{colours_of}
use Rattle.replay_text.proofs.image.put_colours.Given as goal

abbrev pub invariant-pixels : goal.invariant-pixels
invariant-pixels l = record {
  whole : l.image.items ++ colours_of l.remaining ≡ l.fn.image.items ++ colours_of l.bytes;
  fits : length l.image.items + length (colours_of l.remaining) ≤ l.image.room;
  same_room : l.image.room ≡ l.fn.image.room;
}

abbrev pub decreases-pixels : goal.decreases-pixels
decreases-pixels l = length l.remaining
