-- The triangles of a draw, one after the other, change the frame as the draw does.
use Rattle.std.proofs.Common.{◌≡◌, ℕ, suc, ◌+◌, true, false, List, refl, sym, ap, subst, ◌∙◌, add-one}
use Rattle.std.proofs.lemmas.Bool.{cond-false, cond-true}
use Rattle.gl_memory.specs.Segment.{Segment}
use Rattle.triangle_raster.specs.declared.vertex.Area.{Area}
use Rattle.triangle_raster.specs.declared.vertex.Vertex.{Vertex}
use Rattle.fragment_ops.specs.declared.cell.Cell.{Cell}
use Rattle.fragment_ops.specs.declared.place.Place.{Place}
use Rattle.fragment_ops.specs.Frame.{FrameView, frame_changed}
use Rattle.fragment_ops.proofs.FrameChanges.{frame_changed-alike, frame_changed-height, frame_changed-none, frame_changed-twice, frame_changed-width}
use Rattle.vertex_stage.specs.declared.stage.Stage.{Stage}
use Rattle.vertex_stage.specs.declared.triangles.Triple.{Triple}
use Rattle.vertex_stage.specs.Triangles.{triangle_at, triangle_count}
use Rattle.vertex_stage.specs.Vertex.{corners_of}
use Rattle.triangle_draw.specs.declared.drawing.Drawing.{Drawing}
use Rattle.triangle_draw.specs.Area.{IsAreaOf}
use Rattle.triangle_draw.specs.Draw.{cell_after_draw, cell_after_triangles, corners_at}
use Rattle.triangle_draw.specs.Triangle.{cell_after_triangle}

-- the area of a frame is that of the frame after a change
pub area_kept : (drawing : Drawing) (area : Area) (change : Place → Cell → Cell) (frame now : FrameView) → now ≡ frame_changed change frame
    → IsAreaOf drawing frame.width frame.height area → IsAreaOf drawing now.width now.height area
area_kept drawing area change frame now is of_frame =
    let wide : frame.width ≡ now.width = sym (ap (λ (f : FrameView). f.width) is ∙ frame_changed-width change frame) in
    let high : frame.height ≡ now.height = sym (ap (λ (f : FrameView). f.height) is ∙ frame_changed-height change frame) in
    subst (λ (n : ℕ). IsAreaOf drawing now.width n area) high (subst (λ (n : ℕ). IsAreaOf drawing n frame.height area) wide of_frame)

-- the corners of elements whose places were asked for
pub corners_placed : (stage : Stage) (memories : ℕ → List Segment) (at : ℕ → ℕ) (places : Triple) (corners : List Vertex) (first second third : ℕ)
    → first ≡ at places.first → second ≡ at places.second → third ≡ at places.third
    → corners ≡ corners_of stage memories first second third → corners ≡ corners_of stage memories (at places.first) (at places.second) (at places.third)
corners_placed stage memories at places corners first second third one two three is =
    is
    ∙ ap (λ (n : ℕ). corners_of stage memories n second third) one
    ∙ ap (λ (n : ℕ). corners_of stage memories (at places.first) n third) two
    ∙ ap (corners_of stage memories (at places.first) (at places.second)) three

module _ (drawing : Drawing) (memories : ℕ → List Segment) (mode : ℕ) (at : ℕ → ℕ) (frame : FrameView) where
  -- the corners of a triangle by the places of its vertices
  pub corners_told : (number : ℕ) (places : Triple) (corners : List Vertex) → places ≡ triangle_at mode number
      → corners ≡ corners_of drawing.stage memories (at places.first) (at places.second) (at places.third)
      → corners ≡ corners_at drawing memories mode at number
  unfolding corners_at
  corners_told number places corners there is =
      is ∙ ap (λ (p : Triple). corners_of drawing.stage memories (at p.first) (at p.second) (at p.third)) there

  -- no triangle yet
  pub triangles_none : frame ≡ frame_changed (cell_after_triangles drawing memories mode at 0) frame
  unfolding cell_after_triangles
  triangles_none = frame_changed-none (cell_after_triangles drawing memories mode at 0) frame (λ place old. refl)

  -- one more
  pub triangles_more : (number : ℕ) (corners : List Vertex) (now after : FrameView) → now ≡ frame_changed (cell_after_triangles drawing memories mode at number) frame
      → corners ≡ corners_at drawing memories mode at number → after ≡ frame_changed (cell_after_triangle drawing corners) now
      → after ≡ frame_changed (cell_after_triangles drawing memories mode at (number + 1)) frame
  unfolding cell_after_triangles
  triangles_more number corners now after so_far there is =
      let next : number + 1 ≡ suc number = add-one number in
      is
      ∙ ap (λ (list : List Vertex). frame_changed (cell_after_triangle drawing list) now) there
      ∙ ap (frame_changed (cell_after_triangle drawing (corners_at drawing memories mode at number))) so_far
      ∙ frame_changed-twice (cell_after_triangles drawing memories mode at number) (cell_after_triangle drawing (corners_at drawing memories mode at number)) frame
      ∙ frame_changed-alike _ (cell_after_triangles drawing memories mode at (suc number)) frame (λ place old. refl)
      ∙ ap (λ (n : ℕ). frame_changed (cell_after_triangles drawing memories mode at n) frame) (sym next)

  module _ (count : ℕ) where
    -- all of them, where the array of vertices is enabled
    pub draw_enabled : (now : FrameView) → drawing.stage.vertex.enabled ≡ true → now ≡ frame_changed (cell_after_triangles drawing memories mode at (triangle_count mode count)) frame
        → now ≡ frame_changed (cell_after_draw drawing memories mode at count) frame
    unfolding cell_after_draw
    draw_enabled now on is =
        is
        ∙ frame_changed-alike (cell_after_triangles drawing memories mode at (triangle_count mode count)) (cell_after_draw drawing memories mode at count) frame
        (λ place old. sym (cond-true drawing.stage.vertex.enabled (cell_after_triangles drawing memories mode at (triangle_count mode count) place old) old on))

    -- none of them, where it is disabled
    pub draw_disabled : drawing.stage.vertex.enabled ≡ false → frame ≡ frame_changed (cell_after_draw drawing memories mode at count) frame
    unfolding cell_after_draw
    draw_disabled off =
        frame_changed-none (cell_after_draw drawing memories mode at count) frame
        (λ place old. cond-false drawing.stage.vertex.enabled (cell_after_triangles drawing memories mode at (triangle_count mode count) place old) old off)
