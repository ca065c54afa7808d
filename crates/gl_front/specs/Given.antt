-- What a front gives of a call: its reply, where it asks for something; own.
use Rattle.std.specs.Prelude.{Option, Some, None}
use Rattle.driver_trait.specs.declared.reply.Reply.{Reply}
use Rattle.driver_trait.specs.Reply.{Replied, Nothing, replied}

-- the reply that is given, nothing where none is: a call that asks for nothing replies nothing; own
abbrev pub given_by : Option Reply → Replied
given_by None = Nothing
given_by (Some reply) = replied reply
