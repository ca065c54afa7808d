-- Changes of frames, for the crates above: that two of them are the same, that one comes after another, and that nothing changes.
use Rattle.std.proofs.Common.{◌≡◌, ℕ, ◌+◌, ◌*◌, ◌<◌, ℤ, Bool, true, false, cond, List, length, Option, Some, None, refl, sym, ap, ◌∙◌, arith}
use Rattle.std.specs.Prelude.{not}
use Rattle.std.proofs.lemmas.List.{set-get_or}
use Rattle.std.proofs.lemmas.Nat.{mod_below, div_below}
use Rattle.fragment_ops.specs.declared.cell.Cell.{Cell}
use Rattle.fragment_ops.specs.declared.place.Place.{Place}
use Rattle.fragment_ops.specs.declared.state.FragmentState.{FragmentState}
use Rattle.fragment_ops.specs.Cell.{Fragment, cell_after_put, cell_written, passes_alpha, passes_depth, passes_scissor}
use Rattle.fragment_ops.specs.Frame.{FrameView, IsFrame, cell_at, first_cell, frame_changed, only_at, place_at, place_in}
use Rattle.fragment_ops.specs.Hidden.{is_hidden, is_hidden_at}
use Rattle.fragment_ops.proofs.Changes.{changed_from-kept, changed_from-same, changed_from-twice, length-changed_from}
use Rattle.fragment_ops.proofs.Places.{frame_changed-put, with_cells}

-- two changes that are the same at each place and cell make the same frame
pub frame_changed-alike : (f g : Place → Cell → Cell) (frame : FrameView) → ((place : Place) (old : Cell) → f place old ≡ g place old)
    → frame_changed f frame ≡ frame_changed g frame
unfolding frame_changed
frame_changed-alike f g frame same =
    ap (with_cells frame)
    (changed_from-same (λ before. f (place_at frame.width before)) (λ before. g (place_at frame.width before)) 0 frame.cells
    (λ k old low high. same (place_at frame.width k) old))

-- a place of a frame lies in it
record Lies (frame : FrameView) (place : Place) : Type 0 where
  in_width : place.column < frame.width
  in_height : place.row < frame.height

place_lies : (frame : FrameView) → IsFrame frame → (k : ℕ) → k < length frame.cells → Lies frame (place_at frame.width k)
place_lies frame whole k inside = record {
  in_width = mod_below k frame.width (omega (arith, whole.sides.wide));
  in_height = div_below k frame.width frame.height (omega (arith, whole.sides.wide)) (omega (arith, whole.count));
}

module _ (frame : FrameView) (whole : IsFrame frame) where
  -- and so do two that are the same at each place of the frame
  pub frame_changed-same : (f g : Place → Cell → Cell)
      → ((place : Place) (old : Cell) → place.column < frame.width → place.row < frame.height → f place old ≡ g place old)
      → frame_changed f frame ≡ frame_changed g frame
  unfolding frame_changed
  frame_changed-same f g same =
      ap (with_cells frame)
      (changed_from-same (λ before. f (place_at frame.width before)) (λ before. g (place_at frame.width before)) 0 frame.cells
      (λ k old low high.
      let lies = place_lies frame whole k (omega (arith, high)) in
      same (place_at frame.width k) old lies.in_width lies.in_height))

  -- a change that leaves each cell of the frame
  pub frame_changed-kept : (f : Place → Cell → Cell)
      → ((place : Place) (old : Cell) → place.column < frame.width → place.row < frame.height → f place old ≡ old)
      → frame ≡ frame_changed f frame
  unfolding frame_changed
  frame_changed-kept f kept =
      ap (with_cells frame)
      (changed_from-kept (λ before. f (place_at frame.width before)) 0 frame.cells
      (λ k old low high.
      let lies = place_lies frame whole k (omega (arith, high)) in
      kept (place_at frame.width k) old lies.in_width lies.in_height))

  -- a frame stays one
  pub frame_changed-whole : (f : Place → Cell → Cell) → IsFrame (frame_changed f frame)
  unfolding frame_changed
  frame_changed-whole f = record {
    sides = whole.sides;
    count = length-changed_from (λ before. f (place_at frame.width before)) 0 frame.cells ∙ whole.count;
  }

-- a change that leaves each cell leaves the frame
pub frame_changed-none : (f : Place → Cell → Cell) (frame : FrameView) → ((place : Place) (old : Cell) → f place old ≡ old) → frame ≡ frame_changed f frame
unfolding frame_changed
frame_changed-none f frame kept =
    ap (with_cells frame) (changed_from-kept (λ before. f (place_at frame.width before)) 0 frame.cells (λ k old low high. kept (place_at frame.width k) old))

-- one change and then another are both in turn
pub frame_changed-twice : (f g : Place → Cell → Cell) (frame : FrameView)
    → frame_changed g (frame_changed f frame) ≡ frame_changed (λ place old. g place (f place old)) frame
unfolding frame_changed
frame_changed-twice f g frame =
    ap (with_cells frame) (changed_from-twice (λ before. f (place_at frame.width before)) (λ before. g (place_at frame.width before)) 0 frame.cells)

-- the sides stay
pub frame_changed-width : (f : Place → Cell → Cell) (frame : FrameView) → (frame_changed f frame).width ≡ frame.width
unfolding frame_changed
frame_changed-width f frame = refl

pub frame_changed-height : (f : Place → Cell → Cell) (frame : FrameView) → (frame_changed f frame).height ≡ frame.height
unfolding frame_changed
frame_changed-height f frame = refl

module _ (state : FragmentState) (frame : FrameView) (depth : ℕ) (colour : List ℕ) where
  abbrev fragment : Fragment
  fragment = record { depth = depth; colour = colour }

  -- a fragment that fails the depth test leaves the cell
  failed : (scissor alpha test : Bool) (new old : Cell) → not test ≡ true → old ≡ (cond scissor (cond alpha (cond test new old) old) old)
  failed true true false new old fails = refl
  failed true true true new old fails = cc
  failed true false test new old fails = refl
  failed false alpha test new old fails = refl

  put_failed : (place : Place) (old : Cell) → not (passes_depth state fragment old) ≡ true → old ≡ cell_after_put place state fragment old
  unfolding cell_after_put
  put_failed place old fails =
      failed (passes_scissor state place) (passes_alpha state fragment) (passes_depth state fragment old) (cell_written state fragment old) old fails

  hidden_by : (x y : ℤ) (whole : IsFrame frame) (found : Option Place) → place_in frame x y ≡ found → is_hidden_at state frame depth found ≡ true
      → frame ≡ frame_changed (only_at x y (λ place. cell_after_put place state fragment)) frame
  unfolding cell_at
  hidden_by x y whole (Some place) there fails =
      ap (with_cells frame) (sym (set-get_or frame.cells (place.row * frame.width + place.column) first_cell))
      ∙ frame_changed-put (λ place. cell_after_put place state fragment) frame x y place (place.row * frame.width + place.column) (cell_at frame place) whole there refl
      (put_failed place (cell_at frame place) fails)
  hidden_by x y whole None there fails = cc

  -- a fragment that is hidden changes nothing
  pub frame_changed-hidden : (x y : ℤ) → IsFrame frame → is_hidden state frame x y depth ≡ true
      → frame ≡ frame_changed (only_at x y (λ place. cell_after_put place state fragment)) frame
  unfolding is_hidden
  frame_changed-hidden x y whole fails = hidden_by x y whole (place_in frame x y) refl fails
