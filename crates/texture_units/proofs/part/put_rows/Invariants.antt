use Rattle.std.proofs.Common.{◌≡◌, ℕ, get_or}
use Rattle.texture_units.specs.Part.{block, byte_after}
use Rattle.texture_units.proofs.part.put_rows.Given as goal

-- the bytes so far, as if the part had so many rows
abbrev pub invariant-loop-row : goal.invariant-loop-row
invariant-loop-row l = (at : ℕ) → get_or l.bytes at 0 ≡ byte_after (block l.fn.stride l.fn.first l.fn.run l.fn.bottom l.row) l.fn.part l.fn.bytes at
