-- A body line while its bytes are still digits in the source, as the line that comes of it.
use Rattle.std.specs.Prelude.{IsTrue}
use Rattle.script_reader.specs.Hex.{are_pairs, paired, in_their_room}
use Rattle.script_reader.specs.declared.told.Asked.{Asked}
use Rattle.script_reader.specs.declared.told.Asked.TheVariants as asked
use Rattle.script_reader.specs.declared.script.Act.{Act}
use Rattle.script_reader.specs.declared.script.Act.TheVariants.{Mem, Image, Gl}

-- what the line does; own
abbrev pub act_of : Asked → Act
act_of (asked.Mem at digits) = Mem at (in_their_room (paired digits.now))
act_of (asked.Image name width height at) = Image name width height at
act_of (asked.Gl call) = Gl call

-- its digits spell bytes; own
abbrev pub HasBytes : Asked → Type 0
HasBytes (asked.Mem at digits) = IsTrue (are_pairs digits.now)
HasBytes _ = Unit {0}
