-- What the lines of a script tell: a call with the numbers that are printed of its reply, and an image that is taken out of client memory; own.
use Rattle.std.specs.Prelude.{ℕ, ◌*◌, ℤ, pos, List, [], ◌∷◌, length, if◌then◌else◌}
use Rattle.gl_memory.specs.ClientMemory.{memory_of}
use Rattle.gl_memory.specs.Piece.{bytes_from}
use Rattle.gl_words.specs.Call.{is_answering}
use Rattle.gl_words.specs.declared.call.Call.{Call}
use Rattle.gl_words.specs.declared.call.Call.TheVariants.{ReadPixels}
use Rattle.driver_trait.specs.Reply.{Replied, Nothing, Numbers, Bytes}
use Rattle.replay_lines.specs.declared.results.Done.{Done}
use Rattle.replay_lines.specs.declared.results.Printed.{Printed}
use Rattle.replay_lines.specs.declared.results.Printed.TheVariants as prints
use Rattle.replay_lines.specs.declared.results.What.{What}
use Rattle.replay_lines.specs.declared.results.What.TheVariants as whats

-- a call with the numbers that are printed of its reply, or an image: its name, its sides in pixels, and its bytes, four a pixel, the first row as the bottom one; own
pub data Shown : Type 0 where
  Answer : Call → List ℤ → Shown
  Picture : List ℕ → ℕ → ℕ → List ℕ → Shown

-- what a line told, with the line's number and its context; own
pub record DoneView : Type 0 where
  pub number : ℕ
  pub context : ℕ
  pub shown : Shown

-- the numbers that the code keeps to be printed, without the rooms of lists; own
abbrev pub printed_by : Printed → List ℤ
printed_by prints.Nothing = []
printed_by (prints.One number) = number ∷ []
printed_by (prints.Many numbers) = numbers.items

-- what the code keeps of what a line told, without the rooms of its lists; own
abbrev pub shown_by : What → Shown
shown_by (whats.Answer call numbers) = Answer call (printed_by numbers)
shown_by (whats.Image name width height bytes) = Picture name width height bytes.items

-- a result of the code; own
abbrev pub told_by : Done → DoneView
told_by done = record { number = done.number; context = done.context; shown = shown_by done.what }

-- how many bytes a reply has; own
abbrev pub count_of_bytes : Replied → ℤ
count_of_bytes (Bytes bytes) = pos (length bytes)
count_of_bytes Nothing = pos 0
count_of_bytes (Numbers numbers) = pos 0

-- the numbers of a reply, none where it has bytes or nothing; own
abbrev pub numbers_in : Replied → List ℤ
numbers_in Nothing = []
numbers_in (Numbers numbers) = numbers
numbers_in (Bytes bytes) = []

-- the numbers that are printed of a call's reply: of ReadPixels the count of the reply's bytes, of all others the reply's numbers; own
abbrev pub printed : Call → Replied → List ℤ
printed (ReadPixels x y width height format kind pixels) reply = count_of_bytes reply ∷ []
printed call reply = numbers_in reply

-- what a call with this reply tells on a line of this number and context: one that asks for something an answer, all others nothing; own
abbrev pub told_of : ℕ → ℕ → Call → Replied → List DoneView
told_of number context call reply = if is_answering call then record { number = number; context = context; shown = Answer call (printed call reply) } ∷ [] else []

-- the bytes that an image of these sides takes out of client memory from a place on, four a pixel; own
abbrev pub taken_bytes : List ℕ → ℕ → ℕ → ℕ → List ℕ
taken_bytes memory width height at = bytes_from (memory_of memory) at (width * height * 4)
