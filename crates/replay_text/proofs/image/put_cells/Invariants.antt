use Rattle.std.proofs.Common.{◌≡◌, ◌+◌, ◌*◌, ◌++◌, length, take}
use Rattle.replay_text.specs.Ppm.{colours_in}
use Rattle.replay_text.proofs.image.put_cells.Given as goal

-- the cells so far
abbrev pub invariant-loop-cell : goal.invariant-loop-cell
invariant-loop-cell l = record {
  put : l.image ≡ record l.initial.image { items = l.initial.image.items ++ colours_in (take l.cell-index l.cells) };
  long : length l.image.items ≡ length l.initial.image.items + 3 * l.cell-index;
}
