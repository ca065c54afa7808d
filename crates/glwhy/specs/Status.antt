-- The exit statuses of a program that stops before its end: those of `glreplay`; own.
use Rattle.std.specs.Prelude.{ℕ}
use Rattle.glwhy.specs.declared.stop.Stop.{Stop}
use Rattle.glwhy.specs.declared.stop.Stop.TheVariants.{NoText, NoScript, Unread, Unwritten, NoMemory}

-- 2 for words, 3 for a script that can't be read, 6 for output, 7 for memory; own
abbrev pub status_of : Stop → ℕ
status_of NoText = 2
status_of (NoScript command) = 2
status_of (Unread error) = 3
status_of Unwritten = 6
status_of NoMemory = 7
