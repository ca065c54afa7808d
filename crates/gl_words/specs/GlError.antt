-- The errors that a call may record (section 2.5), and their numbers.
use Rattle.std.specs.Prelude.{ℕ}
use Rattle.gl_words.specs.declared.error.GlError.{GlError}
use Rattle.gl_words.specs.declared.error.GlError.TheVariants.{InvalidEnum, InvalidValue, InvalidOperation, StackOverflow, StackUnderflow, OutOfMemory}

-- the number of an error (section 2.5)
abbrev pub code_of : GlError → ℕ
code_of InvalidEnum = 0x0500
code_of InvalidValue = 0x0501
code_of InvalidOperation = 0x0502
code_of StackOverflow = 0x0503
code_of StackUnderflow = 0x0504
code_of OutOfMemory = 0x0505
