-- Where client memories agree on what a draw reads by tracked state, and buffers are the same, memories agree at the elements of each vertex that is drawn, and the draw leaves the same frame.
use Rattle.std.proofs.Common.{◌≡◌, ℕ, ◌+◌, ◌<◌, pos, Bool, true, false, cond, eqb, inl, inr, List, [], ◌∷◌, ◌++◌, length, get_or, map, refl, sym, ap, subst, ◌∙◌, arith}
use Rattle.std.specs.Prelude.{◌==◌, All}
use Rattle.std.specs.List.{filter, flat_map, range_with_len}
use Rattle.std.proofs.lemmas.Bool.{true≢false, cases_lt}
use Rattle.std.proofs.lemmas.List.{get_or_past}
use Rattle.std.proofs.lemmas.List.Elements.{All-cons, All-get_or, All-head, All-nil, All-tail, All-weaker}
use Rattle.std.proofs.lemmas.List.FromFn.{get_or-range_with_len, length-range_with_len}
use Rattle.gl_memory.specs.Piece.{Agree, LiesIn}
use Rattle.gl_memory.specs.Segment.{Segment, byte_at}
use Rattle.gl_memory.specs.declared.piece.Piece.{Piece}
use Rattle.gl_tracked.specs.declared.tracked.ArrayState.{ArrayState}
use Rattle.gl_tracked.specs.declared.tracked.Tracked.{Tracked}
use Rattle.gl_tracked.specs.Element.{arrays_in_order, element_at}
use Rattle.gl_tracked.specs.Ranges.{arrays_read, is_client, ranges_at}
use Rattle.gl_tracked.specs.Tracked.{first_array}
use Rattle.fragment_ops.specs.Frame.{FrameView, frame_changed}
use Rattle.fragment_ops.proofs.FrameChanges.{frame_changed-alike}
use Rattle.vertex_stage.specs.declared.stage.Stage.{Stage}
use Rattle.vertex_stage.specs.Number.{memories_with}
use Rattle.vertex_stage.specs.Vertex.{AgreeAt, AgreeIn}
use Rattle.triangle_draw.specs.declared.drawing.Drawing.{Drawing}
use Rattle.triangle_draw.specs.Draw.{cell_after_draw}
use Rattle.triangle_draw.proofs.Alike.{draws_alike}

-- the arrays that a stage takes are those of tracked state
pub record TakesArrays (tracked : Tracked) (stage : Stage) : Type 0 where
  pub vertex : stage.vertex ≡ tracked.vertex
  pub colour : stage.colour ≡ tracked.colour
  pub first_unit : stage.first_unit.coordinates ≡ get_or tracked.texture 0 first_array
  pub second_unit : stage.second_unit.coordinates ≡ get_or tracked.texture 1 first_array

-- what holds of each element of lists that are put together holds in each of them
module _ {X : Type 0} (P : X → Type 0) where
  front : (xs ys : List X) → All P (xs ++ ys) → All P xs
  front [] ys all = All-nil P
  front (x ∷ xs) ys all = All-cons P x xs (All-head P x (xs ++ ys) all) (front xs ys (All-tail P x (xs ++ ys) all))

  back : (xs ys : List X) → All P (xs ++ ys) → All P ys
  back [] ys all = all
  back (x ∷ xs) ys all = back xs ys (All-tail P x (xs ++ ys) all)

  each_piece : {Y : Type 0} (f : Y → List X) (ys : List Y) → All P (flat_map f ys) → All (λ y. All P (f y)) ys
  each_piece f [] all = All-nil (λ y. All P (f y))
  each_piece f (y ∷ ys) all = All-cons (λ y. All P (f y)) y ys (front (f y) (flat_map f ys) all) (each_piece f ys (back (f y) (flat_map f ys) all))

  each_source : {Y : Type 0} (f : Y → X) (ys : List Y) → All P (map f ys) → All (λ y. P (f y)) ys
  each_source f [] all = All-nil (λ y. P (f y))
  each_source f (y ∷ ys) all = All-cons (λ y. P (f y)) y ys (All-head P (f y) (map f ys) all) (each_source f ys (All-tail P (f y) (map f ys) all))

  -- what holds of those that pass a test
  passed_head : (b : Bool) (x : X) (xs : List X) → All P (cond b (x ∷ xs) xs) → b ≡ true → P x
  passed_head true x xs all passes = All-head P x xs all
  passed_head false x xs all passes = absurd (true≢false (sym passes))

  passed_tail : (b : Bool) (x : X) (xs : List X) → All P (cond b (x ∷ xs) xs) → All P xs
  passed_tail true x xs all = All-tail P x xs all
  passed_tail false x xs all = all

  each_passed : (test : X → Bool) (xs : List X) → All P (filter test xs) → All (λ x. test x ≡ true → P x) xs
  each_passed test [] all = All-nil (λ x. test x ≡ true → P x)
  each_passed test (x ∷ xs) all =
      All-cons (λ x. test x ≡ true → P x) x xs (passed_head (test x) x (filter test xs) all) (each_passed test xs (passed_tail (test x) x (filter test xs) all))

-- a number of those below a count
at_each : (Q : ℕ → Type 0) (count number : ℕ) → All Q (range_with_len 0 count) → number < count → Q number
at_each Q count number all below =
    let inside : number < length (range_with_len 0 count) = subst (λ (n : ℕ). number < n) (sym (length-range_with_len 0 count)) below in
    let none_before : 0 + number ≡ number = omega arith in
    subst Q (get_or-range_with_len 0 count number 0 below ∙ none_before) (All-get_or Q (range_with_len 0 count) number 0 inside all)

-- what a draw with an array of vertices reads
arrays_read-enabled : (tracked : Tracked) → tracked.vertex.enabled ≡ true → arrays_read tracked ≡ filter is_client (arrays_in_order tracked)
unfolding arrays_read
arrays_read-enabled tracked enabled = ap (λ (b : Bool). cond b (filter is_client (arrays_in_order tracked)) []) enabled

ranges_read : (tracked : Tracked) (places : List ℕ) → tracked.vertex.enabled ≡ true → ranges_at tracked places ≡ flat_map (λ array. map (element_at array) places) (filter is_client (arrays_in_order tracked))
unfolding ranges_at
ranges_read tracked places enabled = ap (λ (arrays : List ArrayState). flat_map (λ array. map (element_at array) places) arrays) (arrays_read-enabled tracked enabled)

client_array : (array : ArrayState) → array.enabled ≡ true → (array.buffer == 0) ≡ true → is_client array ≡ true
unfolding is_client
client_array array enabled free = rw enabled free

module _ (m n : List Segment) where
  -- two memories have the same bytes in a range
  abbrev Same : Piece → Type 0
  Same range = (at : ℕ) → LiesIn at range → byte_at m at ≡ byte_at n at

  -- and at an element of an array, if a draw reads the array from client memory
  abbrev SameElement : ℕ → ArrayState → Type 0
  SameElement place array = is_client array ≡ true → Same (element_at array place)

  same_elements : (tracked : Tracked) (at : ℕ → ℕ) (count number : ℕ) → tracked.vertex.enabled ≡ true → number < count
      → Agree m n (ranges_at tracked (map at (range_with_len 0 count))) → All (SameElement (at number)) (arrays_in_order tracked)
  same_elements tracked at count number enabled below agree =
      let places = map at (range_with_len 0 count) in
      let elements : ArrayState → List Piece = λ array. map (element_at array) places in
      let read = subst (Agree m n) (ranges_read tracked places enabled) agree in
      All-weaker (λ array. is_client array ≡ true → All Same (elements array)) (SameElement (at number))
      (λ array all passes.
      at_each (λ drawn. Same (element_at array (at drawn))) count number
      (each_source (λ place. Same (element_at array place)) at (range_with_len 0 count) (each_source Same (element_at array) places (all passes))) below)
      (arrays_in_order tracked)
      (each_passed (λ array. All Same (elements array)) is_client (arrays_in_order tracked) (each_piece Same elements (filter is_client (arrays_in_order tracked)) read))

  module _ (buffers : ℕ → List Segment) where
    -- in the memory of a buffer, or in client memory
    same_by : (b : Bool) (buffer : List Segment) (piece : Piece) → (b ≡ true → Same piece) → (at : ℕ) → LiesIn at piece → byte_at (cond b m buffer) at ≡ byte_at (cond b n buffer) at
    same_by true buffer piece same at lies = same refl at lies
    same_by false buffer piece same at lies = refl

    agree_in : (array : ArrayState) (place : ℕ) → SameElement place array → AgreeIn (memories_with m buffers) (memories_with n buffers) array place
    agree_in array place same enabled = same_by (eqb array.buffer 0) (buffers array.buffer) (element_at array place) (λ free. same (client_array array enabled free))

    in_unit : (texture : List ArrayState) (unit place : ℕ) → All (SameElement place) texture → AgreeIn (memories_with m buffers) (memories_with n buffers) (get_or texture unit first_array) place
    in_unit texture unit place all = elim (cases_lt unit (length texture)) [
      | inl inside ↦ agree_in (get_or texture unit first_array) place (All-get_or (SameElement place) texture unit first_array inside all)
      | inr past ↦ λ enabled. absurd (true≢false (sym enabled ∙ ap (λ (array : ArrayState). array.enabled) (get_or_past texture unit first_array past)))
    ]

    module _ (tracked : Tracked) (stage : Stage) (has : TakesArrays tracked stage) where
      at_place : (place : ℕ) → stage.vertex.enabled ≡ true → All (SameElement place) (arrays_in_order tracked) → AgreeAt stage (memories_with m buffers) (memories_with n buffers) place
      unfolding arrays_in_order
      at_place place enabled all =
          let P = SameElement place in
          let one_memories = memories_with m buffers in
          let other_memories = memories_with n buffers in
          let normal : ArrayState = record tracked.normal { size = pos 3 } in
          let vertex = agree_in tracked.vertex place (All-head P tracked.vertex (normal ∷ tracked.colour ∷ tracked.texture) all) in
          let behind_vertex = All-tail P tracked.vertex (normal ∷ tracked.colour ∷ tracked.texture) all in
          let behind_normal = All-tail P normal (tracked.colour ∷ tracked.texture) behind_vertex in
          let texture = All-tail P tracked.colour tracked.texture behind_normal in
          let taken : (one other : ArrayState) → other ≡ one → AgreeIn one_memories other_memories one place → AgreeIn one_memories other_memories other place =
          λ one other same agree. subst (λ (array : ArrayState). AgreeIn one_memories other_memories array place) (sym same) agree in
          record {
            vertex = taken tracked.vertex stage.vertex has.vertex vertex enabled;
            colour = taken tracked.colour stage.colour has.colour (agree_in tracked.colour place (All-head P tracked.colour tracked.texture behind_normal));
            first_unit = taken (get_or tracked.texture 0 first_array) stage.first_unit.coordinates has.first_unit (in_unit tracked.texture 0 place texture);
            second_unit = taken (get_or tracked.texture 1 first_array) stage.second_unit.coordinates has.second_unit (in_unit tracked.texture 1 place texture);
          }

      -- where two client memories agree on what a draw reads there, memories agree at each vertex that is drawn
      agree_at_vertices : (at : ℕ → ℕ) (count : ℕ) → Agree m n (ranges_at tracked (map at (range_with_len 0 count))) → stage.vertex.enabled ≡ true
          → (number : ℕ) → number < count → AgreeAt stage (memories_with m buffers) (memories_with n buffers) (at number)
      agree_at_vertices at count agree enabled number drawn =
          let set = sym (ap (λ (array : ArrayState). array.enabled) has.vertex) ∙ enabled in
          at_place (at number) enabled (same_elements tracked at count number set drawn agree)

    -- where two client memories agree on what a draw reads there by tracked state, and the places of the elements are the same, it leaves the same frame
    pub frame_after_draw-reads : (tracked : Tracked) (drawing : Drawing) (frame : FrameView) (mode : ℕ) (at other : ℕ → ℕ) (count : ℕ) → TakesArrays tracked drawing.stage
        → ((number : ℕ) → number < count → at number ≡ other number) → Agree m n (ranges_at tracked (map at (range_with_len 0 count)))
        → frame_changed (cell_after_draw drawing (memories_with m buffers) mode at count) frame ≡ frame_changed (cell_after_draw drawing (memories_with n buffers) mode other count) frame
    frame_after_draw-reads tracked drawing frame mode at other count has same agree =
        frame_changed-alike (cell_after_draw drawing (memories_with m buffers) mode at count) (cell_after_draw drawing (memories_with n buffers) mode other count) frame
        (draws_alike drawing (memories_with m buffers) (memories_with n buffers) mode at other count
        (λ enabled number drawn. (same number drawn, agree_at_vertices tracked drawing.stage has at count agree enabled number drawn)))
