-- Whether the frame hides a fragment: the depth test fails it, whatever its colour. No cell is changed here.
use Rattle.std.specs.Prelude.{ℕ, ℤ, Bool, false, not, Option, Some, None}
use Rattle.fragment_ops.specs.declared.place.Place.{Place}
use Rattle.fragment_ops.specs.declared.state.FragmentState.{FragmentState}
use Rattle.fragment_ops.specs.Cell.{passes_depth}
use Rattle.fragment_ops.specs.Frame.{FrameView, cell_at, no_colour, place_in}

-- the depth test fails a fragment of this depth at a place, if there is one; section 4.1.6
abbrev pub is_hidden_at : FragmentState → FrameView → ℕ → Option Place → Bool
is_hidden_at state frame depth (Some place) = not (passes_depth state (record { depth = depth; colour = no_colour }) (cell_at frame place))
is_hidden_at state frame depth None = false

-- the depth test fails a fragment of this depth in column x and row y; section 4.1.6
unfoldable pub is_hidden : FragmentState → FrameView → ℤ → ℤ → ℕ → Bool
is_hidden state frame x y depth = is_hidden_at state frame depth (place_in frame x y)
