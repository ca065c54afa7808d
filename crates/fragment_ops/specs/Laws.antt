-- What the definitions come to, in the words of the subject: place by place, what a fragment and Clear leave as it was, and what blending is at its ends.
use Rattle.std.specs.Prelude.{◌≡◌, ℕ, ◌<◌, Bool, false, List, slice_index, slice_index_or}
use Rattle.fragment_ops.specs.declared.cell.Cell.{Cell}
use Rattle.fragment_ops.specs.declared.place.Place.{Place}
use Rattle.fragment_ops.specs.declared.state.FragmentState.{FragmentState}
use Rattle.fragment_ops.specs.Blend.{blended}
use Rattle.fragment_ops.specs.Cell.{Fragment, cell_after_clear, cell_after_put, passes_scissor}
use Rattle.fragment_ops.specs.Frame.{FrameView, cell_at}

-- a frame becomes another one by a change: the sides stay, and at each place is what the change makes of the cell that was there; own
pub record IsChangedBy (change : Place → Cell → Cell) (old new : FrameView) : Type 0 where
  pub same_width : new.width ≡ old.width
  pub same_height : new.height ≡ old.height
  pub cells : (place : Place) → place.column < old.width → place.row < old.height → cell_at new place ≡ change place (cell_at old place)

-- a cell has kept what is masked: each part of the colour whose mask is off, and the depth where its mask is off; section 4.2.2
pub record KeepsMasked (state : FragmentState) (old new : Cell) : Type 0 where
  pub colour : (part : ℕ) → part < 4 → slice_index_or state.colour_mask part false ≡ false → slice_index new.colour part ≡ slice_index old.colour part
  pub depth : state.depth_mask ≡ false → new.depth ≡ old.depth

-- what a fragment leaves of a cell: all outside the scissor, what is masked, and the depth where the depth test is disabled; sections 4.1.2, 4.1.6 and 4.2.2
pub record FragmentKeeps (state : FragmentState) (place : Place) (fragment : Fragment) (old : Cell) : Type 0 where
  pub outside : passes_scissor state place ≡ false → cell_after_put place state fragment old ≡ old
  pub masked : KeepsMasked state old (cell_after_put place state fragment old)
  pub untested : state.depth_on ≡ false → (cell_after_put place state fragment old).depth ≡ old.depth

-- what Clear leaves of a cell: all outside the scissor, what is masked, and the colour or the depth where it isn't asked for; sections 4.1.2, 4.2.2 and 4.2.3
pub record ClearKeeps (state : FragmentState) (place : Place) (colour depth : Bool) (old : Cell) : Type 0 where
  pub outside : passes_scissor state place ≡ false → cell_after_clear place state colour depth old ≡ old
  pub masked : KeepsMasked state old (cell_after_clear place state colour depth old)
  pub other_colour : colour ≡ false → (cell_after_clear place state colour depth old).colour ≡ old.colour
  pub other_depth : depth ≡ false → (cell_after_clear place state colour depth old).depth ≡ old.depth

-- a part of a colour of bytes, blended by ONE and ZERO, is the source's, and by ZERO and ONE the destination's; section 4.1.7
pub record BlendsAtEnds (source dest : List ℕ) (part : ℕ) : Type 0 where
  pub source_alone : slice_index (blended 1 0 source dest) part ≡ slice_index source part
  pub dest_alone : slice_index (blended 0 1 source dest) part ≡ slice_index dest part
