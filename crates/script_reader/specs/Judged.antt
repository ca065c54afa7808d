-- What a line says, given what the lines before it have said, or the first of the tests that it fails; own. How it is cut into words is told in `Cutting.antt`.
use Rattle.std.specs.Prelude.{ℕ, ◌+◌, ℤ, pos, nat_abs, Bool, false, not, List, [], ◌∷◌, Option, Some, None, Result, Ok, Err, length, nat_lt, nat_le, ◌==◌, ◌&&◌, ◌||◌, if◌then◌else◌, codes}
use Rattle.std.specs.List.{list_all}
use Rattle.std.specs.Option.{option_map, ok_or}
use Rattle.std.specs.Prelude.{option_and_then}
use Rattle.std.specs.Str.{bytes_eq}
use Rattle.gl_words.specs.CallOf.{call_of}
use Rattle.gl_words.specs.Shape.{shape_named}
use Rattle.gl_words.specs.declared.shape.ArgKind.{ArgKind}
use Rattle.gl_words.specs.declared.shape.ArgKind.TheVariants as kinds
use Rattle.script_reader.specs.Cutting.{words_of, text_of}
use Rattle.script_reader.specs.Hex.{bytes_of, in_their_room}
use Rattle.script_reader.specs.ImageBytes.{said_bytes}
use Rattle.script_reader.specs.Name.{name_of}
use Rattle.script_reader.specs.Number.{is_within, decimal_of, number_of, argument_of}
use Rattle.script_reader.specs.UploadBytes.{said_uploads}
use Rattle.script_reader.specs.declared.before.Before.{Before}
use Rattle.script_reader.specs.declared.before.Said.{Said}
use Rattle.script_reader.specs.declared.before.Said.TheVariants.{Nothing, Header, Context, Body, End}
use Rattle.script_reader.specs.declared.error.ScriptFault.{ScriptFault}
use Rattle.script_reader.specs.declared.error.ScriptFault.TheVariants.{NotText, BadHeader, UnknownWord, WrongCount, BadNumber, OutOfRange, NoSuchContext, TooMany, AfterEnd}
use Rattle.script_reader.specs.declared.error.Limit.TheVariants as limits
use Rattle.script_reader.specs.declared.script.ContextSpec.{ContextSpec}
use Rattle.script_reader.specs.declared.script.Act.{Act}
use Rattle.script_reader.specs.declared.script.Act.TheVariants.{Mem, Image, Gl}

infixl 10 ◌>>=◌
-- what comes next, if no test has failed; else the fault of the one that did
abbrev pub ◌>>=◌ : {A B : Type 0} → Result A ScriptFault → (A → Result B ScriptFault) → Result B ScriptFault
(Ok value) >>= next = next value
(Err fault) >>= next = Err fault

-- the first line that counts is `glscript 1`
unfoldable pub judged_header : List ℕ → List (List ℕ) → Result Said ScriptFault
judged_header first [] = Err BadHeader
judged_header first (second ∷ []) = if bytes_eq first (codes "glscript") && bytes_eq second (codes "1") then Ok Header else Err BadHeader
judged_header first (second ∷ third ∷ others) = Err BadHeader

-- the numbers that words spell, if each spells one
unfoldable pub numbers_of : List (List ℕ) → Option (List ℤ)
numbers_of [] = Some []
numbers_of (word ∷ words) = option_and_then (λ number. option_map (λ numbers. number ∷ numbers) (numbers_of words)) (number_of word)

-- the context that four numbers describe, after this many others
unfoldable pub context_of : ℕ → List ℤ → Option ContextSpec
context_of others (which ∷ width ∷ height ∷ memory ∷ []) =
    if is_within others others which && is_within 1 256 width && is_within 1 256 height && is_within 0 1048576 memory
    then Some (record { width = nat_abs width; height = nat_abs height; memory = nat_abs memory })
    else None
context_of others _ = None

-- `context K W H MEM`, before each body line
unfoldable pub judged_context : Before → List (List ℕ) → Result Said ScriptFault
judged_context before words =
    if before.bodied then Err BadHeader else (
    if not (length words == 4) then Err WrongCount else (do
      numbers ← ok_or (numbers_of words) BadNumber
      context ← ok_or (context_of before.contexts numbers) OutOfRange
      if nat_lt before.contexts 1 then Ok (Context context) else Err (TooMany limits.Contexts)))

-- `end`, after a context line
unfoldable pub judged_end : Before → List (List ℕ) → Result Said ScriptFault
judged_end before words =
    if before.contexts == 0 then Err BadHeader else (
    if length words == 0 then Ok End else Err WrongCount)

-- what a number stands for as an argument: for a truth value 0 is false, and 1 to 255 are true
abbrev pub value_of : ArgKind → ℤ → ℤ
value_of kinds.Bool number = if is_within 1 255 number then pos 1 else number
value_of _ number = number

-- the arguments that words spell, if each spells one
unfoldable pub arguments_of : List ArgKind → List (List ℕ) → Option (List ℤ)
arguments_of [] words = Some []
arguments_of (kind ∷ kinds) [] = None
arguments_of (kind ∷ kinds) (word ∷ words) = option_and_then (λ number. option_map (λ numbers. value_of kind number ∷ numbers) (arguments_of kinds words)) (argument_of word)

-- a body line that does this, if its context is there
abbrev pub body_in : Before → ℕ → Act → Result Said ScriptFault
body_in before context act = if nat_lt context before.contexts then Ok (Body (record { number = before.lines + 1; context = context; act = act })) else Err NoSuchContext

-- the place in memory that a number names
abbrev pub address_of : ℤ → Option ℕ
address_of number = if is_within 0 4294967295 number then Some (nat_abs number) else None

-- `K mem ADDR HEX`, without `K mem`
unfoldable pub judged_mem : Before → ℕ → List (List ℕ) → Result Said ScriptFault
judged_mem before context [] = Err WrongCount
judged_mem before context (place ∷ []) = Err WrongCount
judged_mem before context (place ∷ digits ∷ []) = do
  number ← ok_or (number_of place) BadNumber
  bytes ← ok_or (bytes_of digits) BadNumber
  at ← ok_or (address_of number) OutOfRange
  body_in before context (Mem at (in_their_room bytes))
judged_mem before context (place ∷ digits ∷ more ∷ words) = Err WrongCount

-- the image with this name that three numbers describe
unfoldable pub image_of : List ℕ → List ℤ → Option Act
image_of name (width ∷ height ∷ place ∷ []) =
    if is_within 1 256 width && is_within 1 256 height && is_within 0 4294967295 place
    then Some (Image name (nat_abs width) (nat_abs height) (nat_abs place))
    else None
image_of name _ = None

-- `K image NAME W H ADDR`, without `K image`
unfoldable pub judged_image : Before → ℕ → List (List ℕ) → Result Said ScriptFault
judged_image before context [] = Err WrongCount
judged_image before context (word ∷ words) =
    if not (length words == 3) then Err WrongCount else (do
      name ← ok_or (name_of word) BadNumber
      numbers ← ok_or (numbers_of words) BadNumber
      image ← ok_or (image_of name numbers) OutOfRange
      body_in before context image)

-- the arguments that words spell, as many as kinds: their count is judged before them
unfoldable pub judged_arguments : List ArgKind → List (List ℕ) → Result (List ℤ) ScriptFault
judged_arguments kinds words = if not (length words == length kinds) then Err WrongCount else ok_or (arguments_of kinds words) BadNumber

-- a call with these number and kinds, and its arguments
unfoldable pub judged_call : Before → ℕ → ℕ → List ArgKind → List (List ℕ) → Result Said ScriptFault
judged_call before context id kinds words =
    if not (length words == length kinds) then Err WrongCount else (do
      numbers ← ok_or (arguments_of kinds words) BadNumber
      call ← ok_or (call_of id numbers) OutOfRange
      body_in before context (Gl call))

-- `K mem ADDR HEX`, `K image NAME W H ADDR` or `K CallName ARGUMENTS`, without K
unfoldable pub judged_body : Before → ℕ → List (List ℕ) → Result Said ScriptFault
judged_body before context [] = Err WrongCount
judged_body before context (word ∷ words) =
    if bytes_eq word (codes "mem") then judged_mem before context words else (
    if bytes_eq word (codes "image") then judged_image before context words else (do
      shape ← ok_or (shape_named word) UnknownWord
      judged_call before context shape.0 shape.1 words))

-- a line that begins with neither `context` nor `end`
unfoldable pub judged_other : Before → Option ℕ → List (List ℕ) → Result Said ScriptFault
judged_other before None words = Err UnknownWord
judged_other before (Some context) words = judged_body before context words

-- a line that counts
unfoldable pub judged_counting : Before → List ℕ → List (List ℕ) → Result Said ScriptFault
judged_counting before first words =
    if before.ended then Err AfterEnd else (
    if not before.begun then judged_header first words else (
    if bytes_eq first (codes "context") then judged_context before words else (
    if bytes_eq first (codes "end") then judged_end before words else
    judged_other before (decimal_of first) words)))

-- the first byte is `#`
abbrev pub is_comment : List ℕ → Bool
is_comment [] = false
is_comment (byte ∷ bytes) = byte == 35

-- a line of these words: one without words, or whose first begins with `#`, says nothing
unfoldable pub judged_words : Before → List (List ℕ) → Result Said ScriptFault
judged_words before [] = Ok Nothing
judged_words before (first ∷ words) = if is_comment first then Ok Nothing else judged_counting before first words

-- a tab, or 0x20 to 0x7E
abbrev pub is_text_byte : ℕ → Bool
is_text_byte byte = byte == 9 || (nat_le 32 byte && nat_le byte 126)

-- a line without its line end
unfoldable pub judged : Before → List ℕ → Result Said ScriptFault
judged before text = if list_all is_text_byte text then judged_words before (words_of text) else Err NotText

-- what is said, if all images up to this line take at most 67,108,864 bytes
abbrev pub within_image_bytes : Before → Said → Result Said ScriptFault
within_image_bytes before said = if nat_lt 67108864 (before.image_bytes + said_bytes said) then Err (TooMany limits.ImageBytes) else Ok said

-- what is said, if all calls up to this line declare at most 268,435,456 bytes of uploads
abbrev pub within_upload_bytes : Before → Said → Result Said ScriptFault
within_upload_bytes before said = if nat_lt 268435456 (before.upload_bytes + said_uploads said) then Err (TooMany limits.UploadBytes) else Ok said

-- what is said, if neither sum passes its limit at this line
abbrev pub within_sums : Before → Said → Result Said ScriptFault
within_sums before said = within_image_bytes before said >>= within_upload_bytes before

-- a line that begins after this many bytes: within 8,388,608 bytes and 262,144 lines it is judged by what it says, and last by the bytes of all images and uploads
unfoldable pub judged_within : ℕ → Before → List ℕ → Result Said ScriptFault
judged_within at before line =
    if nat_lt 8388608 (at + length line) then Err (TooMany limits.SourceBytes) else (
    if nat_le 262144 before.lines then Err (TooMany limits.Lines) else
    (judged before (text_of line) >>= within_sums before))
