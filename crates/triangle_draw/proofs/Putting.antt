-- The first fragment of a list is put, or it is hidden: what the fragments after it make of the frame is what all made of it.
use Rattle.std.proofs.Common.{◌≡◌, ℕ, zero, suc, ◌<◌, ℤ, pos, ◌+ℤ◌, true, List, [], ◌∷◌, length, Some, None, All, refl, sym, ap, subst, ◌∙◌, arith}
use Rattle.std.proofs.lemmas.List.Elements.{All-get_or}
use Rattle.triangle_raster.specs.declared.fragment.Fragment.{Fragment}
use Rattle.triangle_raster.specs.declared.fragment.Spot.{Spot}
use Rattle.triangle_raster.specs.Row.{first, first_spot, rest, run_of, spot_of}
use Rattle.fragment_ops.specs.declared.cell.Cell.{Cell}
use Rattle.fragment_ops.specs.declared.place.Place.{Place}
use Rattle.fragment_ops.specs.Cell.{cell_after_put}
use Rattle.fragment_ops.specs.Frame.{FrameView, IsFrame, frame_changed, only_among, only_at}
use Rattle.fragment_ops.specs.Hidden.{is_hidden}
use Rattle.fragment_ops.proofs.FrameChanges.{frame_changed-alike, frame_changed-hidden, frame_changed-none, frame_changed-twice}
use Rattle.fragment_ops.proofs.Runs.{only_among-more, only_among-none}
use Rattle.triangle_draw.specs.declared.drawing.Drawing.{Drawing}
use Rattle.triangle_draw.specs.Fragments.{cell_after_all, cell_after_one}
use Rattle.triangle_draw.proofs.Texturing.{textured_colour-moved}
use Rattle.triangle_draw.specs.Triangle.{brought_by, depth_between, textured_colour}

-- what holds of every fragment of a list holds of the first, and of those after it
pub first_all : (P : Fragment → Type 0) (list : List Fragment) (f : Fragment) → All P list → first list ≡ Some f → P f
first_all P [] f all is = cc
first_all P (g ∷ gs) f all is =
    let same : g ≡ f = cc in
    subst P same (All-get_or P (g ∷ gs) 0 f (omega arith) all)

module _ (drawing : Drawing) where
  -- what a fragment of this depth and colour makes of a frame at its place
  abbrev put_at : ℤ → ℤ → ℕ → List ℕ → FrameView → FrameView
  put_at x y depth colour = frame_changed (only_at x y (λ place. cell_after_put place drawing.fragments (record { depth = depth; colour = colour })))

  put_at-same : {x x' y y' : ℤ} {depth depth' : ℕ} {colour colour' : List ℕ} (frame : FrameView) → x ≡ x' → y ≡ y' → depth ≡ depth' → colour ≡ colour'
      → put_at x y depth colour frame ≡ put_at x' y' depth' colour' frame
  put_at-same {x} {x'} {y} {y'} {depth} {depth'} {colour} {colour'} frame p q r s =
      ap (λ (z : ℤ). put_at z y depth colour frame) p
      ∙ ap (λ (z : ℤ). put_at x' z depth colour frame) q
      ∙ ap (λ (n : ℕ). put_at x' y' n colour frame) r
      ∙ ap (λ (l : List ℕ). put_at x' y' depth' l frame) s

  one_put : (f : Fragment) (frame : FrameView)
      → put_at f.x f.y (depth_between drawing.depth_range f.depth) (textured_colour drawing f) frame ≡ frame_changed (cell_after_one drawing f) frame
  unfolding cell_after_one brought_by
  one_put f frame = refl

  put_more : (f : Fragment) (fs : List Fragment) (frame new : FrameView) → new ≡ frame_changed (cell_after_one drawing f) frame
      → frame_changed (cell_after_all drawing fs) new ≡ frame_changed (cell_after_all drawing (f ∷ fs)) frame
  unfolding cell_after_all
  put_more f fs frame new is =
      ap (frame_changed (cell_after_all drawing fs)) is ∙ frame_changed-twice (cell_after_one drawing f) (cell_after_all drawing fs) frame

  -- one fragment is hidden
  pub one_hidden : (f : Fragment) (x y : ℤ) (depth : ℕ) (frame : FrameView) → IsFrame frame → x ≡ f.x → y ≡ f.y → depth ≡ depth_between drawing.depth_range f.depth
      → is_hidden drawing.fragments frame x y depth ≡ true → frame ≡ frame_changed (cell_after_one drawing f) frame
  one_hidden f x y depth frame whole across upwards deep hidden =
      frame_changed-hidden drawing.fragments frame depth (textured_colour drawing f) x y whole hidden ∙ put_at-same frame across upwards deep refl ∙ one_put f frame

  -- no fragment
  pub put_none : (frame : FrameView) → frame ≡ frame_changed (cell_after_all drawing []) frame
  unfolding cell_after_all
  put_none frame = frame_changed-none (cell_after_all drawing []) frame (λ place old. refl)

  -- the first fragment is put
  pub put_first : (list : List Fragment) (f : Fragment) (spot : Spot) (x y : ℤ) (depth : ℕ) (colour : List ℕ) (frame new : FrameView)
      → Some spot ≡ first_spot list → first list ≡ Some f → x ≡ spot.x → y ≡ spot.y → depth ≡ depth_between drawing.depth_range spot.depth → colour ≡ textured_colour drawing f
      → new ≡ put_at x y depth colour frame
      → frame_changed (cell_after_all drawing (rest list)) new ≡ frame_changed (cell_after_all drawing list) frame
  put_first [] f spot x y depth colour frame new looked is across upwards deep shade e = cc
  put_first (g ∷ gs) f spot x y depth colour frame new looked is across upwards deep shade e =
      let there : spot ≡ spot_of g = cc in
      let same : f ≡ g = cc in
      put_more g gs frame new (
      e
      ∙ put_at-same frame (across ∙ ap (λ (s : Spot). s.x) there) (upwards ∙ ap (λ (s : Spot). s.y) there)
      (deep ∙ ap (λ (s : Spot). depth_between drawing.depth_range s.depth) there) (shade ∙ ap (textured_colour drawing) same)
      ∙ one_put g frame
      )

  -- the first fragment is hidden
  pub first_hidden : (list : List Fragment) (spot : Spot) (x y : ℤ) (depth : ℕ) (frame : FrameView) → IsFrame frame
      → Some spot ≡ first_spot list → x ≡ spot.x → y ≡ spot.y → depth ≡ depth_between drawing.depth_range spot.depth
      → is_hidden drawing.fragments frame x y depth ≡ true
      → frame_changed (cell_after_all drawing (rest list)) frame ≡ frame_changed (cell_after_all drawing list) frame
  first_hidden [] spot x y depth frame whole looked across upwards deep hidden = cc
  first_hidden (g ∷ gs) spot x y depth frame whole looked across upwards deep hidden =
      let there : spot ≡ spot_of g = cc in
      put_more g gs frame frame (
      frame_changed-hidden drawing.fragments frame depth (textured_colour drawing g) x y whole hidden
      ∙ put_at-same frame (across ∙ ap (λ (s : Spot). s.x) there) (upwards ∙ ap (λ (s : Spot). s.y) there)
      (deep ∙ ap (λ (s : Spot). depth_between drawing.depth_range s.depth) there) refl
      ∙ one_put g frame
      )

-- what holds of every fragment holds of those after the first
pub rest_all : (P : Fragment → Type 0) (list : List Fragment) → All P list → All P (rest list)
rest_all P [] all = all
rest_all P (g ∷ gs) all = λ k d below. all (suc k) d (omega arith)

-- those after the first are fewer
pub shorter : (list : List Fragment) (spot : Spot) → first_spot list ≡ Some spot → length (rest list) < length list
shorter [] spot is = cc
shorter (g ∷ gs) spot is = omega arith

-- where none is left nothing changes
pub at_end : (drawing : Drawing) (list : List Fragment) (frame : FrameView) → first_spot list ≡ None → frame ≡ frame_changed (cell_after_all drawing list) frame
at_end drawing [] frame is = put_none drawing frame
at_end drawing (g ∷ gs) frame is = cc

-- what holds of each fragment of a run that isn't empty holds of the first
pub run_first : (P : Fragment → Type 0) (f : Fragment) (count : ℕ) → 0 < count → All P (run_of f count) → P f
run_first P f zero some all = absurd (omega arith)
run_first P f (suc count) some all = first_all P (run_of f (suc count)) f all refl

module _ (drawing : Drawing) where
  -- what a fragment of this depth and colour makes of a cell, wherever it lies
  abbrev put_with : ℕ → List ℕ → Place → Cell → Cell
  put_with depth colour place = cell_after_put place drawing.fragments (record { depth = depth_between drawing.depth_range depth; colour = colour })

  -- what a fragment of a run makes of a cell, wherever it lies in it
  abbrev put_of : Fragment → Place → Cell → Cell
  put_of f = put_with f.depth (textured_colour drawing f)

  run_cells : (f : Fragment) (count : ℕ) (place : Place) (old : Cell) → only_among f.x f.y count (put_of f) place old ≡ cell_after_all drawing (run_of f count) place old
  unfolding cell_after_all cell_after_one brought_by
  run_cells f zero place old = only_among-none f.x f.y (put_of f) place old
  run_cells f (suc count) place old =
      sym (only_among-more f.x f.y (put_of f) place old count)
      ∙ ap (λ (colour : List ℕ). only_among (f.x +ℤ pos 1) f.y count (put_with f.depth colour) place (only_at f.x f.y (put_of f) place old)) (sym (textured_colour-moved drawing f (f.x +ℤ pos 1)))
      ∙ run_cells (record f { x = f.x +ℤ pos 1 }) count place (only_at f.x f.y (put_of f) place old)

  -- the fragments of a run are put at once
  pub run_put : (f : Fragment) (count : ℕ) (x y : ℤ) (depth : ℕ) (colour : List ℕ) (frame : FrameView) → x ≡ f.x → y ≡ f.y
      → depth ≡ depth_between drawing.depth_range f.depth → colour ≡ textured_colour drawing f
      → frame_changed (only_among x y count (λ place. cell_after_put place drawing.fragments (record { depth = depth; colour = colour }))) frame
      ≡ frame_changed (cell_after_all drawing (run_of f count)) frame
  run_put f count x y depth colour frame across upwards deep shade =
      ap (λ (z : ℤ). frame_changed (only_among z y count (λ place. cell_after_put place drawing.fragments (record { depth = depth; colour = colour }))) frame) across
      ∙ ap (λ (z : ℤ). frame_changed (only_among f.x z count (λ place. cell_after_put place drawing.fragments (record { depth = depth; colour = colour }))) frame) upwards
      ∙ ap (λ (n : ℕ). frame_changed (only_among f.x f.y count (λ place. cell_after_put place drawing.fragments (record { depth = n; colour = colour }))) frame) deep
      ∙ ap (λ (l : List ℕ). frame_changed (only_among f.x f.y count (λ place. cell_after_put place drawing.fragments (record { depth = depth_between drawing.depth_range f.depth; colour = l }))) frame) shade
      ∙ frame_changed-alike (only_among f.x f.y count (put_of f)) (cell_after_all drawing (run_of f count)) frame (run_cells f count)

  -- one fragment is put
  pub one_is_put : (f : Fragment) (x y : ℤ) (depth : ℕ) (colour : List ℕ) (frame new : FrameView) → x ≡ f.x → y ≡ f.y
      → depth ≡ depth_between drawing.depth_range f.depth → colour ≡ textured_colour drawing f → new ≡ put_at drawing x y depth colour frame
      → new ≡ frame_changed (cell_after_one drawing f) frame
  one_is_put f x y depth colour frame new across upwards deep shade is =
      is ∙ put_at-same drawing frame across upwards deep shade ∙ one_put drawing f frame

  -- the next fragment of a list is put
  pub next_put : (list : List Fragment) (f : Fragment) (frame new : FrameView) → first list ≡ Some f → new ≡ frame_changed (cell_after_one drawing f) frame
      → frame_changed (cell_after_all drawing (rest list)) new ≡ frame_changed (cell_after_all drawing list) frame
  next_put [] f frame new found is = cc
  next_put (g ∷ gs) f frame new found is =
      let same : f ≡ g = cc in
      put_more drawing g gs frame new (is ∙ ap (λ (h : Fragment). frame_changed (cell_after_one drawing h) frame) same)

  -- a list without a next fragment is empty
  pub at_last : (list : List Fragment) (frame : FrameView) → first list ≡ None → frame ≡ frame_changed (cell_after_all drawing list) frame
  at_last [] frame none = put_none drawing frame
  at_last (g ∷ gs) frame none = cc

-- those after the next are fewer
pub fewer : (list : List Fragment) (f : Fragment) → first list ≡ Some f → length (rest list) < length list
fewer [] f is = cc
fewer (g ∷ gs) f is = omega arith
