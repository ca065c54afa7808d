-- What a look at a call tells: its class, the number that it is answered with, the pieces captured for it, the heading of its spelling, and whether it asks for something; own. Its error is fault_of.
use Rattle.std.specs.Prelude.{◌≡◌, ℕ, ℤ, Bool, true, false, List, Option, Some, None}
use Rattle.gl_memory.specs.declared.piece.Piece.{Piece}
use Rattle.gl_words.specs.declared.call.Call.{Call}
use Rattle.batch_pack.specs.Batch.{captured}
use Rattle.batch_pack.specs.Heading.{IsHeadingOf}
use Rattle.client_shadow.specs.declared.class.Class.{Class}
use Rattle.client_shadow.specs.declared.class.Class.TheVariants as classes
use Rattle.client_shadow.specs.declared.look.Becomes.{Becomes}
use Rattle.client_shadow.specs.declared.look.Becomes.TheVariants.{Answer, Sync, Defer}

-- the class of a call of which this becomes; own
abbrev pub class_in : Becomes → Class
class_in (Answer number) = classes.Answer
class_in (Sync asks) = classes.Sync
class_in (Defer heading) = classes.Defer

-- the number that a call is answered with at once, if it is; own
abbrev pub number_in : Becomes → Option ℤ
number_in (Answer number) = Some number
number_in (Sync asks) = None
number_in (Defer heading) = None

-- where a call is put off, the pieces that were found for it are these; own
abbrev pub Captures : Becomes → List Piece → List Piece → Type 0
Captures (Answer number) found pieces = Unit {0}
Captures (Sync asks) found pieces = Unit {0}
Captures (Defer heading) found pieces = found ≡ pieces

-- where a call is put off, its spelling with these pieces of memory has this heading; own
abbrev pub HasHeading : Becomes → Call → List Piece → List ℕ → Type 0
HasHeading (Answer number) call pieces memory = Unit {0}
HasHeading (Sync asks) call pieces memory = Unit {0}
HasHeading (Defer heading) call pieces memory = IsHeadingOf heading (captured call pieces memory)

-- a call asks for something where this becomes of it; sections 2.5, 4.3.1 and 6.1
abbrev pub asks_in : Becomes → Bool
asks_in (Answer number) = true
asks_in (Sync asks) = asks
asks_in (Defer heading) = false
