-- Which calls send a batch on its way; section 5.1. Which wait is told in Class.antt.
use Rattle.std.specs.Prelude.{Bool, true, false}
use Rattle.gl_words.specs.declared.call.Call.{Call}
use Rattle.gl_words.specs.declared.call.Call.TheVariants.{Flush}

-- whether a call has the open batch sent on its way; section 5.1
unfoldable pub is_flush : Call → Bool
is_flush Flush = true
is_flush _ = false
