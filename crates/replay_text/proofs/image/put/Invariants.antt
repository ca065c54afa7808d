-- the bytes so far stand behind what stood before
use Rattle.std.proofs.Common.{◌≡◌, ◌++◌, take}
use Rattle.replay_text.proofs.image.put.Given as goal

abbrev pub invariant-loop-byte : goal.invariant-loop-byte
invariant-loop-byte l = l.image ≡ record l.initial.image { items = l.initial.image.items ++ take l.byte-index l.bytes }
