-- What a call read from slots spells; own.
use Rattle.batch_pack.specs.declared.packed.Packed.{Packed}
use Rattle.batch_pack.specs.Spelling.{Spelled}

-- a call read from slots, and the segments lent with it; own
abbrev pub spelled_by : Packed → Spelled
spelled_by packed = record { call = packed.call; segments = packed.memory }
