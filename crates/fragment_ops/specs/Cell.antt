-- What a fragment, and Clear, make of one cell: the new cell as a function of its place, the state, the fragment and the old cell. No other cell is looked at.
use Rattle.std.specs.Prelude.{ℕ, ℤ, pos, ◌+ℤ◌, int_le, int_lt, Bool, true, ◌&&◌, if◌then◌else◌, List, map}
use Rattle.fragment_ops.specs.declared.cell.Cell.{Cell}
use Rattle.fragment_ops.specs.declared.place.Place.{Place}
use Rattle.fragment_ops.specs.declared.state.FragmentState.{FragmentState}
use Rattle.fragment_ops.specs.State.{byte_of, depth_of, number_at}
use Rattle.fragment_ops.specs.Comparison.{compares}
use Rattle.fragment_ops.specs.Blend.{alpha_of, blended, masked, parts}

-- what a fragment brings to its place: a depth of 16 bits, and a colour of four bytes; chapter 4
pub record Fragment : Type 0 where
  pub depth : ℕ
  pub colour : List ℕ

-- a place lies in a rectangle of x, y, width and height; section 4.1.2
unfoldable pub is_within : List ℤ → Place → Bool
is_within rectangle place =
    (int_le (number_at rectangle 0) (pos place.column) && int_lt (pos place.column) (number_at rectangle 0 +ℤ number_at rectangle 2))
    && (int_le (number_at rectangle 1) (pos place.row) && int_lt (pos place.row) (number_at rectangle 1 +ℤ number_at rectangle 3))

-- the scissor test of a place: it lies in the scissor rectangle, where the test is enabled; section 4.1.2
abbrev pub passes_scissor : FragmentState → Place → Bool
passes_scissor state place = if state.scissor_on then is_within state.scissor place else true

-- the alpha test of a fragment: its alpha against the reference, where the test is enabled; section 4.1.4
abbrev pub passes_alpha : FragmentState → Fragment → Bool
passes_alpha state fragment = if state.alpha_on then compares state.alpha_func (alpha_of fragment.colour) (byte_of state.alpha_reference) else true

-- the depth test of a fragment: its depth against that of the cell, where the test is enabled; section 4.1.6
abbrev pub passes_depth : FragmentState → Fragment → Cell → Bool
passes_depth state fragment old = if state.depth_on then compares state.depth_func fragment.depth old.depth else true

-- the colour of a fragment over that of the cell: blended with it, where blending is enabled; section 4.1.7
abbrev pub colour_over : FragmentState → Fragment → Cell → List ℕ
colour_over state fragment old =
    if state.blend_on then blended state.source_factor state.dest_factor fragment.colour old.colour else fragment.colour

-- a fragment that passed its tests is written: its colour under the colour mask, its depth under the depth mask where the depth test is enabled; sections 4.1.6 and 4.2.2
unfoldable pub cell_written : FragmentState → Fragment → Cell → Cell
cell_written state fragment old = record {
  colour = masked state.colour_mask (colour_over state fragment old) old.colour;
  depth = if state.depth_on && state.depth_mask then fragment.depth else old.depth;
}

-- the cell at a place after a fragment came there: scissor, alpha test, depth test, and then it is blended and written; else the cell stays; chapter 4
unfoldable pub cell_after_put : Place → FragmentState → Fragment → Cell → Cell
cell_after_put place state fragment old =
    if passes_scissor state place then (
    if passes_alpha state fragment then (
    if passes_depth state fragment old then cell_written state fragment old else old) else old) else old

-- the cell that the clear colour and the clear depth are; section 4.2.3
abbrev pub clear_values : FragmentState → Cell
clear_values state = record { colour = map (λ part. byte_of (number_at state.clear_colour part)) parts; depth = depth_of state.clear_depth }

-- a cell of which the colour or the depth, or both, are cleared: the clear colour under the colour mask, the clear depth under the depth mask; section 4.2.3
unfoldable pub cell_cleared : FragmentState → Bool → Bool → Cell → Cell
cell_cleared state colour depth old = record {
  colour = if colour then masked state.colour_mask (clear_values state).colour old.colour else old.colour;
  depth = if depth && state.depth_mask then (clear_values state).depth else old.depth;
}

-- the cell at a place after Clear of the colour or the depth, or both: it is cleared inside the scissor, and stays outside; section 4.2.3
unfoldable pub cell_after_clear : Place → FragmentState → Bool → Bool → Cell → Cell
cell_after_clear place state colour depth old = if passes_scissor state place then cell_cleared state colour depth old else old
