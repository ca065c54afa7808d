-- That a shadow follows every driver, and that captures serve; own.
use Rattle.std.specs.Prelude.{◌≡◌, ℕ, List}
use Rattle.gl_words.specs.Call.{IsInRange}
use Rattle.gl_words.specs.declared.call.Call.{Call}
use Rattle.gl_memory.specs.Piece.{cut}
use Rattle.gl_memory.specs.Segment.{Segment, AreBytes}
use Rattle.gl_tracked.specs.declared.tracked.Tracked.{Tracked}
use Rattle.driver_trait.specs.Driver.{Steps}
use Rattle.driver_trait.specs.Reply.{Replied}
use Rattle.gl_tracked.specs.Reads.{AgreesOn}
use Rattle.gl_tracked.specs.Step.{reads_of, tracked_after}
use Rattle.client_shadow.specs.declared.class.Class.TheVariants.{Defer}
use Rattle.client_shadow.specs.Class.{class_of, pieces_of}

-- a shadow that is the tracked part of a driver before a call is that after it, once it noted the call; own
abbrev pub ShadowFollows : {S : Type 0} → (S → Tracked) → Steps S → Type 0
ShadowFollows {S} tracked steps =
    (shadow : Tracked) (st st2 : S) (call : Call) (memory : List Segment) (reply : Replied) → IsInRange call → AreBytes memory
    → shadow ≡ tracked st → steps st call memory st2 reply → tracked_after shadow call memory ≡ tracked st2

-- a memory and what is cut out of it at the pieces for a call that is put off have the same byte wherever the call reads; own
abbrev pub CapturesServe : Type 0
CapturesServe =
    (tracked : Tracked) (call : Call) (memory : List Segment) (slots : ℕ) → class_of tracked call memory slots ≡ Defer
    → AgreesOn memory (cut (pieces_of tracked call memory) memory) (reads_of tracked call memory)
