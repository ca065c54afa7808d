-- The calls of frames, and what the renderer makes of them; own. No batch, rail or front stands in what is drawn.
use Rattle.std.specs.Prelude.{◌≡◌, ℕ, zero, suc, ◌%◌, pos, ◌&&◌, Bool, if◌then◌else◌, nat_lt, ◌==◌, []}
use Rattle.gl_words.specs.declared.call.Call.{Call}
use Rattle.gl_words.specs.declared.call.Call.TheVariants.{Clear, ClearColorx, Flush, GetError}
use Rattle.gl_memory.specs.ClientMemory.{memory_of}
use Rattle.soft_driver.specs.Renderer.{SoftSteps, SoftView, soft_after}
use Rattle.gl_front.specs.Front.{FrontView, StandsFor}

-- the call that sets the colour of a frame of this number: red rises from frame to frame; own
abbrev pub colour_of : ℕ → Call
colour_of number = ClearColorx (pos (number % 65537)) (pos 65536) (pos 32768) (pos 65536)

-- the renderer after a call, where client memory has no byte; own
abbrev pub after : SoftView → Call → SoftView
after soft call = soft_after soft call (memory_of [])

-- the renderer after a frame of this number: its colour is set, it is cleared, and it ends; own
abbrev pub drawn : ℕ → SoftView → SoftView
drawn number soft = after (after (after soft (colour_of number)) (Clear 0x4000)) Flush

-- an error is asked for after a frame of this number: every so many frames, and never where that is 0; own
unfoldable pub is_asked : ℕ → ℕ → Bool
is_asked asks number = nat_lt 0 asks && (number % asks == 0)

-- the renderer after a frame of this number, and after an error was asked for where it is; own
abbrev pub drawn_and_asked : ℕ → ℕ → SoftView → SoftView
drawn_and_asked asks number soft = if is_asked asks number then after (drawn number soft) GetError else drawn number soft

-- the renderer after so many frames; own
abbrev pub after_frames : ℕ → ℕ → SoftView → SoftView
after_frames asks zero soft = soft
after_frames asks (suc frames) soft = drawn_and_asked asks frames (after_frames asks frames soft)

-- each state for which a front may stand now is what was made of one for which it could stand before; own
abbrev pub LeadsBy : {R : Type 0} → (R → SoftView → Type 0) → (SoftView → SoftView) → FrontView R → FrontView R → Type 0
LeadsBy stands makes old new = (st2 : SoftView) → StandsFor stands SoftSteps new st2 → (st : SoftView) × StandsFor stands SoftSteps old st × (st2 ≡ makes st)
