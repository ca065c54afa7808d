-- What the header of a spelling says of a call, but for its segments; own.
use Rattle.std.specs.Prelude.{◌≡◌}
use Rattle.gl_words.specs.Call.{id_of}
use Rattle.batch_pack.specs.Spelling.{Spelled, slots_of}
use Rattle.batch_pack.specs.declared.spelling.Heading.{Heading}

-- a heading is that of a call with these segments: its number, and how many slots its spelling has; own
pub record IsHeadingOf (heading : Heading) (spelled : Spelled) : Type 0 where
  pub id : heading.id ≡ id_of spelled.call
  pub slots : heading.slots ≡ slots_of spelled
