-- What a call answers, as contracts see it; own.
use Rattle.std.specs.Prelude.{ℕ, ℤ, List, [], ◌∷◌}
use Rattle.driver_trait.specs.declared.reply.Reply.{Reply}
use Rattle.driver_trait.specs.declared.reply.Reply.TheVariants as replies

-- nothing, numbers or bytes; own
pub data Replied : Type 0 where
  Nothing : Replied
  Numbers : List ℤ → Replied
  Bytes : List ℕ → Replied

-- one number is a list of one; own
abbrev pub replied : Reply → Replied
replied replies.Nothing = Nothing
replied (replies.One number) = Numbers (number ∷ [])
replied (replies.Numbers numbers) = Numbers numbers.items
replied (replies.Bytes bytes) = Bytes bytes.items
