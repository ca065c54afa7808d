-- What contracts see of the private state of a context, and that state at the start. No driver, batch or front stands here.
use Rattle.std.specs.Prelude.{◌≡◌, ℕ, Option, None}
use Rattle.gl_words.specs.declared.error.GlError.{GlError}
use Rattle.gl_tracked.specs.declared.tracked.Tracked.{Tracked}
use Rattle.gl_tracked.specs.Tracked.{first_tracked, IsSound}
use Rattle.gl_state.specs.declared.settings.Settings.{Settings}
use Rattle.gl_state.specs.Settings.{first_settings, AreAccepted, AreClamped}
use Rattle.gl_state.specs.Stacks.{StacksView, first_stacks, depths_of}

-- all state of a context but objects and pixels: its number, the sides of its frame in pixels, the recorded error, the tracked part, the stacks, and what else calls set; own
pub record PrivateView : Type 0 where
  pub context : ℕ
  pub width : ℕ
  pub height : ℕ
  pub error : Option GlError
  pub tracked : Tracked
  pub stacks : StacksView
  pub settings : Settings

-- the tracked part is sound, its depths are those of the stacks, and the settings are within their bounds and such as calls accept; own
pub record IsWhole (tracked : Tracked) (stacks : StacksView) (settings : Settings) : Type 0 where
  pub sound : IsSound tracked
  pub depths : tracked.depths ≡ depths_of stacks
  pub clamped : AreClamped settings
  pub accepted : AreAccepted settings

-- a context of this number and these sides at the start: no error, each stack holds the identity; sections 2.5 and 2.10.2
unfoldable pub first_private : ℕ → ℕ → ℕ → PrivateView
first_private context width height = record {
  context = context;
  width = width;
  height = height;
  error = None;
  tracked = first_tracked;
  stacks = first_stacks;
  settings = first_settings width height;
}
