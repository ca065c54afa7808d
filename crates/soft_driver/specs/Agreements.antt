-- Client memories that agree where a draw reads lead to the same frame, beside the same objects.
use Rattle.std.proofs.Common.{◌≡◌, ℕ, zero, suc, ◌+◌, ◌<◌, ℤ, pos, negsuc, Bool, true, false, ◌||◌, cond, eqb, List, [], ◌∷◌, map, Option, Some, None, refl, sym, ap, subst, ◌∙◌, arith}
use Rattle.std.specs.Prelude.{◌&&◌, int_le, nat_le, nat_lt, not}
use Rattle.std.specs.List.{filter, flat_map, list_any, range_with_len}
use Rattle.std.proofs.lemmas.Bool.{and_parts, eqb-true, true≢false}
use Rattle.std.proofs.lemmas.Bool.Decides.{nat_tests}
use Rattle.std.proofs.lemmas.List.Elements.{All-nil}
use Rattle.gl_words.specs.declared.call.Call.{Call}
use Rattle.gl_words.specs.declared.call.Call.TheVariants.{Clear, DrawArrays, DrawElements}
use Rattle.gl_words.specs.declared.error.GlError.{GlError}
use Rattle.gl_words.specs.declared.error.GlError.TheVariants.{InvalidEnum, InvalidValue}
use Rattle.gl_memory.specs.ClientMemory.{memory_of}
use Rattle.gl_memory.specs.Piece.{Agree, LiesIn}
use Rattle.gl_memory.specs.Segment.{Segment, byte_at}
use Rattle.gl_memory.specs.declared.piece.Piece.{Piece}
use Rattle.gl_objects.specs.Store.{store_in}
use Rattle.gl_objects.specs.View.{ObjectsView}
use Rattle.fragment_ops.specs.Frame.{FrameView, frame_changed}
use Rattle.fragment_ops.proofs.FrameChanges.{frame_changed-alike}
use Rattle.gl_tracked.specs.declared.tracked.ArrayState.{ArrayState}
use Rattle.gl_tracked.specs.declared.tracked.Tracked.{Tracked}
use Rattle.gl_tracked.specs.Count.{count_drawn}
use Rattle.gl_tracked.specs.Element.{arrays_in_order, element_at}
use Rattle.gl_tracked.specs.Enumerants.{index_types, modes}
use Rattle.gl_tracked.specs.Fault.{fault_of, is_among, is_drawable, is_element_count}
use Rattle.gl_tracked.specs.Indices.{index_numbered, indices_at}
use Rattle.gl_tracked.specs.Ranges.{arrays_read, elements_read_all, is_client, places_drawn, ranges_at, ranges_of_draw, ranges_of_elements, reads_client, takes_indices}
use Rattle.gl_tracked.specs.Reads.{AgreesOn}
use Rattle.gl_tracked.specs.Step.{ranges_of, reads_all, reads_by, reads_of}
use Rattle.gl_tracked.proofs.Agreeing.{agrees_ranges, elements_agree}
use Rattle.gl_tracked.proofs.Faults.{first_passed}
use Rattle.triangle_draw.specs.Draw.{cell_after_draw}
use Rattle.triangle_draw.specs.Elements.{place_in}
use Rattle.triangle_draw.specs.declared.elements.Elements.TheVariants.{Indexed}
use Rattle.triangle_draw.proofs.DrawReads.{TakesArrays, frame_after_draw-reads}
use Rattle.gl_state.specs.Private.{PrivateView}
use Rattle.soft_driver.specs.Drawing.{drawing_of, stage_of, texturing_of}
use Rattle.soft_driver.specs.Own.{frame_after, memories_of}

-- numbers behind a first one
numbers_behind : (first from count : ℕ) → map (λ number. first + number) (range_with_len from count) ≡ range_with_len (first + from) count
numbers_behind first from zero = refl
numbers_behind first from (suc count) =
    let next : first + (from + 1) ≡ first + from + 1 = omega arith in
    ap (λ (others : List ℕ). (first + from) ∷ others) (numbers_behind first (from + 1) count ∙ ap (λ (at : ℕ). range_with_len at count) next)

-- where there are no places no list of ranges has any
no_ranges : (arrays : List ArrayState) → flat_map (λ array. map (element_at array) []) arrays ≡ []
no_ranges [] = refl
no_ranges (array ∷ arrays) = no_ranges arrays

passed_by : (passes found : Bool) (array : ArrayState) (kept : List ArrayState) → (found ≡ false → kept ≡ []) → (passes || found) ≡ false → cond passes (array ∷ kept) kept ≡ []
passed_by true found array kept others none = absurd (true≢false none)
passed_by false found array kept others none = others none

-- where none passes a test none is kept by it
none_passes : (test : ArrayState → Bool) (arrays : List ArrayState) → list_any test arrays ≡ false → filter test arrays ≡ []
none_passes test [] none = refl
none_passes test (array ∷ arrays) none = passed_by (test array) (list_any test arrays) array (filter test arrays) (none_passes test arrays) none

arrays_by : (enabled : Bool) (arrays : List ArrayState) → (enabled && list_any is_client arrays) ≡ false → cond enabled (filter is_client arrays) [] ≡ []
arrays_by true arrays none = none_passes is_client arrays none
arrays_by false arrays none = refl

-- a draw that reads no array from client memory reads none at all
arrays_read-none : (tracked : Tracked) → reads_client tracked ≡ false → arrays_read tracked ≡ []
unfolding reads_client arrays_read
arrays_read-none tracked none = arrays_by tracked.vertex.enabled (arrays_in_order tracked) none

ranges_at-none : (tracked : Tracked) (places : List ℕ) → reads_client tracked ≡ false → ranges_at tracked places ≡ []
unfolding ranges_at
ranges_at-none tracked places none = ap (λ (arrays : List ArrayState). flat_map (λ array. map (element_at array) places) arrays) (arrays_read-none tracked none)

ranges_at-no_places : (tracked : Tracked) → ranges_at tracked [] ≡ []
unfolding ranges_at
ranges_at-no_places tracked = no_ranges (arrays_read tracked)

some_drawn : (others : ℕ) → nat_lt 0 (suc others) ≡ true
some_drawn others = grind (arith, nat_tests)

disabled : {X : Type 0} (enabled : Bool) (one other old : X) → enabled ≡ false → cond enabled one old ≡ cond enabled other old
disabled true one other old off = absurd (true≢false off)
disabled false one other old off = refl

module _ (m n : List Segment) where
  abbrev Same : Piece → Type 0
  Same range = (at : ℕ) → LiesIn at range → byte_at m at ≡ byte_at n at

  in_none : (ranges : List Piece) → ranges ≡ [] → Agree m n ranges
  in_none ranges none = subst (Agree m n) (sym none) (All-nil Same)

  in_some : (tracked : Tracked) (places : List ℕ) (ranges : List Piece) (all client : Bool) → reads_client tracked ≡ client → all ≡ client → AgreesOn m n (reads_by None all ranges) → Agree m n (ranges_at tracked places)
  in_some tracked places ranges all true is same agree =
      agrees_ranges m n true (ranges_at tracked places) (subst (λ (b : Bool). AgreesOn m n (reads_by None b ranges)) same agree)
  in_some tracked places ranges all false is same agree = in_none (ranges_at tracked places) (ranges_at-none tracked places is)

  -- where a draw that may read all of client memory, or none of it, agrees on what it reads, it agrees at each place
  agree_anyway : (tracked : Tracked) (at : ℕ → ℕ) (count : ℕ) (ranges : List Piece) (all : Bool) → all ≡ (nat_lt 0 count && reads_client tracked) → AgreesOn m n (reads_by None all ranges)
      → Agree m n (ranges_at tracked (map at (range_with_len 0 count)))
  agree_anyway tracked at zero ranges all same agree = in_none (ranges_at tracked []) (ranges_at-no_places tracked)
  agree_anyway tracked at (suc others) ranges all same agree =
      in_some tracked (map at (range_with_len 0 (suc others))) ranges all (reads_client tracked) refl (same ∙ ap (λ (b : Bool). b && reads_client tracked) (some_drawn others)) agree

  module _ (objects : ObjectsView) where
    in_client : memories_of objects m 0 ≡ m
    unfolding memories_of
    in_client = refl

    stored_by : (free : Bool) (store : List Segment) → free ≡ false → cond free m store ≡ cond free n store
    stored_by free store is = disabled free m n store is

    -- the memory of a buffer is the same beside both
    stored_same : (buffer : ℕ) → eqb buffer 0 ≡ false → memories_of objects m buffer ≡ memories_of objects n buffer
    unfolding memories_of
    stored_same buffer is = stored_by (eqb buffer 0) (memory_of (store_in objects.buffers buffer)) is

    module _ (state : PrivateView) (frame : FrameView) where
      -- the arrays that a draw takes are those that are set
      draws_set : TakesArrays state.tracked (drawing_of state objects).stage
      unfolding drawing_of stage_of texturing_of
      draws_set = record { vertex = refl; colour = refl; first_unit = refl; second_unit = refl }

      -- the frame after so many vertices of a mode were drawn that take elements at these places, beside a client memory
      abbrev Drawn : List Segment → ℕ → (ℕ → ℕ) → ℕ → FrameView
      Drawn memory mode at count = frame_changed (cell_after_draw (drawing_of state objects) (memories_of objects memory) mode at count) frame

      drawn_same : (mode : ℕ) (at other : ℕ → ℕ) (count : ℕ) → ((number : ℕ) → number < count → at number ≡ other number)
          → Agree m n (ranges_at state.tracked (map at (range_with_len 0 count))) → Drawn m mode at count ≡ Drawn n mode other count
      unfolding memories_of
      drawn_same mode at other count same agree =
          frame_after_draw-reads m n (λ name. memory_of (store_in objects.buffers name)) state.tracked (drawing_of state objects) frame mode at other count draws_set same agree

      none_drawn : (mode : ℕ) (at other : ℕ → ℕ) (count : ℕ) → state.tracked.vertex.enabled ≡ false → Drawn m mode at count ≡ Drawn n mode other count
      unfolding cell_after_draw
      none_drawn mode at other count off =
          let on = ap (λ (array : ArrayState). array.enabled) draws_set.vertex ∙ off in
          frame_changed-alike (cell_after_draw (drawing_of state objects) (memories_of objects m) mode at count) (cell_after_draw (drawing_of state objects) (memories_of objects n) mode other count) frame
          (λ place old. disabled (drawing_of state objects).stage.vertex.enabled _ _ old on)

      places_in_order : (first count : ℕ) → nat_le count 65536 ≡ true → cond (nat_le count 65536) (range_with_len first count) [] ≡ map (λ number. first + number) (range_with_len 0 count)
      places_in_order first count few =
          let from : first + 0 ≡ first = omega arith in
          ap (λ (b : Bool). cond b (range_with_len first count) []) few
          ∙ sym (numbers_behind first 0 count ∙ ap (λ (at : ℕ). range_with_len at count) from)

      arrays_drawn : (mode : ℕ) (first count : ℤ) → is_drawable first count ≡ true → Agree m n (ranges_of_draw state.tracked first count)
          → frame_after None state frame objects (DrawArrays mode first count) m ≡ frame_after None state frame objects (DrawArrays mode first count) n
      unfolding is_drawable ranges_of_draw places_drawn
      arrays_drawn mode (negsuc below) count drawable agree = absurd (true≢false (sym drawable))
      arrays_drawn mode (pos first) (negsuc below) drawable agree =
          let bounds = and_parts (int_le (pos 0) (pos first)) _ drawable in
          absurd (true≢false (sym (bounds.1)))
      arrays_drawn mode (pos first) (pos count) drawable agree =
          let bounds = and_parts (int_le (pos 0) (pos first)) _ drawable in
          let few = and_parts (int_le (pos 0) (pos count)) _ (bounds.1) in
          drawn_same mode (λ number. first + number) (λ number. first + number) count (λ number below. refl)
          (subst (λ (places : List ℕ). Agree m n (ranges_at state.tracked places)) (places_in_order first count (few.1)) agree)

      -- the frame after a draw by indices that lie in the memory of a buffer
      abbrev ByIndices : ℕ → List Segment → ℕ → ℕ → ℕ → ℕ → FrameView
      ByIndices buffer memory mode count kind indices = Drawn memory mode (place_in (Indexed buffer kind indices) (memories_of objects memory)) count

      from_client : (mode count kind indices : ℕ) → ((number : ℕ) → number < count → index_numbered m kind indices number ≡ index_numbered n kind indices number)
          → Agree m n (ranges_at state.tracked (map (index_numbered m kind indices) (range_with_len 0 count))) → ByIndices 0 m mode count kind indices ≡ ByIndices 0 n mode count kind indices
      unfolding memories_of
      from_client mode count kind indices same agree = drawn_same mode (index_numbered m kind indices) (index_numbered n kind indices) count same agree

      from_buffer : (mode count kind indices : ℕ) (ranges : List Piece) (all : Bool) → eqb state.tracked.element_buffer 0 ≡ false → all ≡ (nat_lt 0 count && reads_client state.tracked)
          → AgreesOn m n (reads_by None all ranges) → ByIndices state.tracked.element_buffer m mode count kind indices ≡ ByIndices state.tracked.element_buffer n mode count kind indices
      from_buffer mode count kind indices ranges all is same agree =
          let buffer = state.tracked.element_buffer in
          let at = place_in (Indexed buffer kind indices) (memories_of objects m) in
          drawn_same mode at (place_in (Indexed buffer kind indices) (memories_of objects n)) count
          (λ number below. ap (λ (memory : List Segment). index_numbered memory kind indices number) (stored_same buffer is))
          (agree_anyway state.tracked at count ranges all same agree)

      counted : (count : ℕ) → is_element_count (pos count) ≡ true → count_drawn (pos count) ≡ count
      unfolding is_element_count count_drawn
      counted count few =
          let most = and_parts (int_le (pos 0) (pos count)) _ few in
          ap (λ (b : Bool). cond b count 0) (most.1)

      indices_in_client : (mode count kind indices : ℕ) (all : Bool) → is_element_count (pos count) ≡ true → eqb state.tracked.element_buffer 0 ≡ true → state.tracked.vertex.enabled ≡ true
          → AgreesOn m n (reads_by None all (ranges_of_elements state.tracked (pos count) kind indices m)) → ByIndices 0 m mode count kind indices ≡ ByIndices 0 n mode count kind indices
      unfolding takes_indices indices_at
      indices_in_client mode count kind indices all few free enabled agree =
          let both = elements_agree m n state.tracked (pos count) kind indices (rw enabled free) (agrees_ranges m n all (ranges_of_elements state.tracked (pos count) kind indices m) agree) in
          let drawn = counted count few in
          from_client mode count kind indices (λ number below. both.indices number (subst (λ (c : ℕ). number < c) (sym drawn) below))
          (subst (λ (c : ℕ). Agree m n (ranges_at state.tracked (map (index_numbered m kind indices) (range_with_len 0 c)))) drawn both.elements)

      elements_by : (free enabled : Bool) (mode count kind indices : ℕ) → eqb state.tracked.element_buffer 0 ≡ free → state.tracked.vertex.enabled ≡ enabled → is_element_count (pos count) ≡ true
          → AgreesOn m n (reads_by None (elements_read_all state.tracked (pos count)) (ranges_of_elements state.tracked (pos count) kind indices m))
          → ByIndices state.tracked.element_buffer m mode count kind indices ≡ ByIndices state.tracked.element_buffer n mode count kind indices
      unfolding elements_read_all
      elements_by free false mode count kind indices is off few agree = none_drawn mode _ _ count off
      elements_by true true mode count kind indices is on few agree =
          subst (λ (buffer : ℕ). ByIndices buffer m mode count kind indices ≡ ByIndices buffer n mode count kind indices) (sym (eqb-true state.tracked.element_buffer 0 is))
          (indices_in_client mode count kind indices (elements_read_all state.tracked (pos count)) few is on agree)
      elements_by false true mode count kind indices is on few agree =
          let tracked = state.tracked in
          from_buffer mode count kind indices (ranges_of_elements tracked (pos count) kind indices m) (elements_read_all tracked (pos count)) is
          (ap (λ (c : ℕ). nat_lt 0 c && (not (eqb tracked.element_buffer 0) && reads_client tracked)) (counted count few) ∙ ap (λ (b : Bool). nat_lt 0 count && (not b && reads_client tracked)) is) agree

      elements_drawn : (mode : ℕ) (count : ℤ) (kind indices : ℕ) → is_element_count count ≡ true
          → AgreesOn m n (reads_by None (elements_read_all state.tracked count) (ranges_of_elements state.tracked count kind indices m))
          → frame_after None state frame objects (DrawElements mode count kind indices) m ≡ frame_after None state frame objects (DrawElements mode count kind indices) n
      unfolding is_element_count
      elements_drawn mode (negsuc below) kind indices few agree = absurd (true≢false (sym few))
      elements_drawn mode (pos count) kind indices few agree =
          elements_by (eqb state.tracked.element_buffer 0) state.tracked.vertex.enabled mode count kind indices refl refl few agree

      frame_after-reads_by : (fault : Option GlError) (call : Call) → fault_of state.tracked call ≡ fault → AgreesOn m n (reads_by fault (reads_all state.tracked call) (ranges_of state.tracked call m))
          → frame_after fault state frame objects call m ≡ frame_after fault state frame objects call n
      unfolding fault_of ranges_of reads_all
      frame_after-reads_by (Some error) call is agree = refl
      frame_after-reads_by None (Clear mask) is agree = refl
      frame_after-reads_by None (DrawArrays mode first count) is agree =
          let mode_passed = first_passed (is_among modes mode) InvalidEnum _ is in
          let passed = first_passed (is_drawable first count) InvalidValue [] (mode_passed.1) in
          arrays_drawn mode first count (passed.0) agree
      frame_after-reads_by None (DrawElements mode count kind indices) is agree =
          let mode_passed = first_passed (is_among modes mode) InvalidEnum _ is in
          let kind_passed = first_passed (is_among index_types kind) InvalidEnum _ (mode_passed.1) in
          let passed = first_passed (is_element_count count) InvalidValue [] (kind_passed.1) in
          elements_drawn mode count kind indices (passed.0) agree
      frame_after-reads_by None _ is agree = refl

      -- the frame is the same on memories that agree where the call reads
      pub frame_after-reads : (call : Call) → AgreesOn m n (reads_of state.tracked call m)
          → frame_after (fault_of state.tracked call) state frame objects call m ≡ frame_after (fault_of state.tracked call) state frame objects call n
      unfolding reads_of
      frame_after-reads call agree = frame_after-reads_by (fault_of state.tracked call) call refl agree
