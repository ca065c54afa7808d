-- Where a call makes no event, its step doesn't depend on objects.
use Rattle.std.proofs.Common.{◌≡◌, ℕ, zero, suc, ◌+◌, ℤ, pos, negsuc, Bool, true, false, cond, eqb, inl, inr, List, [], ◌∷◌, ◌++◌, length, get_or, Option, Some, None, refl, sym, ap, ◌∙◌, arith}
use Rattle.std.specs.Prelude.{All, int_lt, ◌&&◌}
use Rattle.std.specs.List.{flat_map}
use Rattle.std.proofs.lemmas.Bool.{cases_lt, true≢false}
use Rattle.std.proofs.lemmas.Int.{ints}
use Rattle.std.proofs.lemmas.List.{get_or_past}
use Rattle.std.proofs.lemmas.List.Elements.{All-cons, All-get_or, All-head, All-nil, All-tail}
use Rattle.gl_words.specs.declared.call.Call.{Call}
use Rattle.gl_words.specs.declared.call.Call.TheVariants.{Clear, DrawArrays, DrawElements}
use Rattle.gl_words.specs.declared.error.GlError.{GlError}
use Rattle.gl_memory.specs.ClientMemory.{memory_of}
use Rattle.gl_memory.specs.Segment.{Segment, byte_at}
use Rattle.gl_objects.specs.declared.event.Event.{Event}
use Rattle.gl_objects.specs.Store.{store_in}
use Rattle.gl_objects.specs.Textures.{texture_in}
use Rattle.gl_objects.specs.View.{ObjectsView}
use Rattle.fragment_ops.specs.declared.cell.Cell.{Cell}
use Rattle.fragment_ops.specs.declared.place.Place.{Place}
use Rattle.fragment_ops.specs.Frame.{FrameView, frame_changed}
use Rattle.fragment_ops.proofs.FrameChanges.{frame_changed-alike}
use Rattle.gl_tracked.specs.declared.tracked.ArrayState.{ArrayState}
use Rattle.gl_tracked.specs.declared.tracked.Tracked.{Tracked}
use Rattle.gl_tracked.specs.Fault.{fault_of}
use Rattle.gl_tracked.specs.Indices.{index_numbered}
use Rattle.gl_tracked.specs.Tracked.{first_array}
use Rattle.vertex_stage.specs.Triangles.{triangle_count}
use Rattle.vertex_stage.specs.Vertex.{AgreeAt, AgreeIn}
use Rattle.triangle_draw.specs.declared.drawing.Drawing.{Drawing}
use Rattle.triangle_draw.specs.Draw.{cell_after_draw, cell_after_triangles}
use Rattle.triangle_draw.specs.Elements.{place_in}
use Rattle.triangle_draw.specs.declared.elements.Elements.TheVariants.{Indexed}
use Rattle.triangle_draw.specs.Unit.{UnitView}
use Rattle.triangle_draw.proofs.Alike.{draws_alike}
use Rattle.gl_state.specs.Event.{ask_of, buffer_used, event_by, no_reply, texture_bound, texture_used, use_by, use_of, use_unless_none, used_buffers, used_textures, used_unless_zero}
use Rattle.gl_state.specs.Private.{PrivateView}
use Rattle.gl_state.specs.Step.{private_after}
use Rattle.soft_driver.specs.Drawing.{drawing_of, stage_of, texturing_of, unit_of, unit_with_texture}
use Rattle.soft_driver.specs.Own.{Own, Stepped, event_of, frame_after, given_back, memories_of, number_of, own_reply, own_step, own_step_with}

-- an array lies in no buffer, if it is enabled
abbrev IsClient : ArrayState → Type 0
IsClient array = array.enabled ≡ true → eqb array.buffer 0 ≡ true

no_parts : (xs ys : List ℕ) → xs ++ ys ≡ [] → (xs ≡ []) × (ys ≡ [])
no_parts [] ys none = (refl, none)
no_parts (x ∷ xs) ys none = absurd (cc)

unused_by : (free : Bool) (name : ℕ) → cond free [] (name ∷ []) ≡ [] → free ≡ true
unused_by true name none = refl
unused_by false name none = absurd (cc)

array_by : (enabled free : Bool) (name : ℕ) → cond enabled (cond free [] (name ∷ [])) [] ≡ [] → enabled ≡ true → free ≡ true
array_by true free name none on = unused_by free name none
array_by false free name none on = absurd (true≢false (sym on))

array_is_client : (array : ArrayState) → buffer_used array ≡ [] → IsClient array
unfolding buffer_used
array_is_client array none = array_by array.enabled (eqb array.buffer 0) array.buffer none

arrays_are_client : (arrays : List ArrayState) → flat_map buffer_used arrays ≡ [] → All IsClient arrays
arrays_are_client [] none = All-nil IsClient
arrays_are_client (array ∷ arrays) none =
    let parts = no_parts (buffer_used array) (flat_map buffer_used arrays) none in
    All-cons IsClient array arrays (array_is_client array (parts.0)) (arrays_are_client arrays (parts.1))

none_used : (buffers textures : List ℕ) → use_unless_none buffers textures ≡ None → (buffers ≡ []) × (textures ≡ [])
none_used [] [] none = (refl, refl)
none_used [] (texture ∷ textures) none = absurd (cc)
none_used (buffer ∷ buffers) textures none = absurd (cc)

none_drawn : (draws : Bool) (buffers textures : List ℕ) → cond draws (use_unless_none buffers textures) None ≡ None → draws ≡ true → (buffers ≡ []) × (textures ≡ [])
none_drawn true buffers textures none is = none_used buffers textures none
none_drawn false buffers textures none is = absurd (true≢false (sym is))

-- a draw of some elements that makes no event uses neither buffers nor textures
uses_none : (p : PrivateView) (count : ℤ) (elements : ℕ) → use_by p count elements ≡ None → int_lt (pos 0) count ≡ true → p.tracked.vertex.enabled ≡ true
    → (used_buffers p.tracked elements ≡ []) × (used_textures p ≡ [])
unfolding use_by
uses_none p count elements none some on =
    let draws : (int_lt (pos 0) count && p.tracked.vertex.enabled) ≡ true = rw some on in
    none_drawn (int_lt (pos 0) count && p.tracked.vertex.enabled) (used_buffers p.tracked elements) (used_textures p) none draws

off_by : (enabled : Bool) (name : ℕ) (unit : Option UnitView) → cond enabled (name ∷ []) [] ≡ [] → cond enabled unit None ≡ None
off_by true name unit none = absurd (cc)
off_by false name unit none = refl

-- a unit whose texture isn't used takes no part
unit_off : (p : PrivateView) (objects : ObjectsView) (unit : ℕ) → texture_used p unit ≡ [] → unit_of p objects unit ≡ None
unfolding texture_used unit_of
unit_off p objects unit none =
    off_by (get_or p.settings.capabilities.texture_2d unit false) (texture_bound p unit) (unit_with_texture p unit (texture_in objects (texture_bound p unit))) none

-- where no texture is used, a draw goes by the same beside all objects
drawing_of-unused : (p : PrivateView) (a b : ObjectsView) → used_textures p ≡ [] → drawing_of p a ≡ drawing_of p b
unfolding used_textures drawing_of
drawing_of-unused p a b none =
    let parts = no_parts (texture_used p 0) (texture_used p 1) none in
    let first = unit_off p a 0 (parts.0) ∙ sym (unit_off p b 0 (parts.0)) in
    let second = unit_off p a 1 (parts.1) ∙ sym (unit_off p b 1 (parts.1)) in
    let At : Option UnitView → Option UnitView → Drawing = λ one other. record (drawing_of p a) { first_unit = one; second_unit = other } in
    ap (λ (unit : Option UnitView). At unit (unit_of p a 1)) first ∙ ap (λ (unit : Option UnitView). At (unit_of p b 0) unit) second

three_by : (four five six : Bool) → ◌≡◌ {A = ℕ} (cond four 0 (cond five 0 (cond six 0 0))) 0
three_by true five six = refl
three_by false true six = refl
three_by false false true = refl
three_by false false false = refl

-- no elements make no triangle
no_elements : (mode : ℕ) → triangle_count mode 0 ≡ 0
unfolding triangle_count
no_elements mode = three_by (eqb mode 4) (eqb mode 5) (eqb mode 6)

-- no array that a draw takes lies in a buffer, nor do its indices
record TakesNoBuffers (tracked : Tracked) (elements : ℕ) : Type 0 where
  arrays : All IsClient (tracked.vertex ∷ tracked.normal ∷ tracked.colour ∷ tracked.texture)
  indices : eqb elements 0 ≡ true

no_buffers : (p : PrivateView) (count : ℤ) (elements : ℕ) → use_by p count elements ≡ None → int_lt (pos 0) count ≡ true → p.tracked.vertex.enabled ≡ true → TakesNoBuffers p.tracked elements
unfolding used_buffers
no_buffers p count elements none some on =
    let arrays = p.tracked.vertex ∷ p.tracked.normal ∷ p.tracked.colour ∷ p.tracked.texture in
    let uses = uses_none p count elements none some on in
    let parts = no_parts (flat_map buffer_used arrays) (used_unless_zero elements) (uses.0) in
    record { arrays = arrays_are_client arrays (parts.0); indices = unused_by (eqb elements 0) elements (parts.1) }

some_counted : (number : ℕ) → int_lt (pos 0) (pos (suc number)) ≡ true
some_counted number = grind (arith, ints)

-- a count that isn't above zero counts no element
none_counted : (count : ℤ) → int_lt (pos 0) count ≡ false → number_of count ≡ 0
none_counted (pos zero) none = refl
none_counted (pos (suc number)) none = absurd (true≢false (sym (some_counted number) ∙ none))
none_counted (negsuc below) none = refl

both_same : {X : Type 0} (b : Bool) (x : X) → cond b x x ≡ x
both_same true x = refl
both_same false x = refl

in_unit : (texture : List ArrayState) (unit : ℕ) → All IsClient texture → IsClient (get_or texture unit first_array)
in_unit texture unit all = elim (cases_lt unit (length texture)) [
  | inl inside ↦ All-get_or IsClient texture unit first_array inside all
  | inr past ↦ λ enabled. absurd (true≢false (sym enabled ∙ ap (λ (array : ArrayState). array.enabled) (get_or_past texture unit first_array past)))
]

module _ (m : List Segment) (a b : ObjectsView) where
  client_by : (free : Bool) (one other : List Segment) → free ≡ true → cond free m one ≡ cond free m other
  client_by true one other is = refl
  client_by false one other is = absurd (true≢false (sym is))

  same_memory : (buffer : ℕ) → eqb buffer 0 ≡ true → memories_of a m buffer ≡ memories_of b m buffer
  unfolding memories_of
  same_memory buffer free = client_by (eqb buffer 0) (memory_of (store_in a.buffers buffer)) (memory_of (store_in b.buffers buffer)) free

  agree_in : (array : ArrayState) (place : ℕ) → IsClient array → AgreeIn (memories_of a m) (memories_of b m) array place
  agree_in array place client = λ on at lies. ap (λ (memory : List Segment). byte_at memory at) (same_memory array.buffer (client on))

  module _ (state : PrivateView) (frame : FrameView) where
    agree_at : (place : ℕ) → state.tracked.vertex.enabled ≡ true → All IsClient (state.tracked.vertex ∷ state.tracked.normal ∷ state.tracked.colour ∷ state.tracked.texture)
        → AgreeAt (drawing_of state a).stage (memories_of a m) (memories_of b m) place
    unfolding drawing_of stage_of texturing_of
    agree_at place on all =
        let tracked = state.tracked in
        let behind_vertex = All-tail IsClient tracked.vertex (tracked.normal ∷ tracked.colour ∷ tracked.texture) all in
        let behind_normal = All-tail IsClient tracked.normal (tracked.colour ∷ tracked.texture) behind_vertex in
        let texture = All-tail IsClient tracked.colour tracked.texture behind_normal in
        record {
          vertex = agree_in tracked.vertex place (All-head IsClient tracked.vertex (tracked.normal ∷ tracked.colour ∷ tracked.texture) all) on;
          colour = agree_in tracked.colour place (All-head IsClient tracked.colour tracked.texture behind_normal);
          first_unit = agree_in (get_or tracked.texture 0 first_array) place (in_unit tracked.texture 0 texture);
          second_unit = agree_in (get_or tracked.texture 1 first_array) place (in_unit tracked.texture 1 texture);
        }

    -- the cell at a place after so many elements were drawn that lie at these places of the arrays, beside objects
    abbrev Drawn : ObjectsView → ℕ → (ℕ → ℕ) → ℕ → Place → Cell → Cell
    Drawn objects mode at count = cell_after_draw (drawing_of state objects) (memories_of objects m) mode at count

    -- a draw without elements leaves the cell, and so does one without the array of vertices
    drawn-nothing : (objects : ObjectsView) (mode : ℕ) (at : ℕ → ℕ) (place : Place) (old : Cell) → Drawn objects mode at 0 place old ≡ old
    unfolding cell_after_draw cell_after_triangles drawing_of stage_of
    drawn-nothing objects mode at place old =
        ap (λ (triangles : ℕ). cond state.tracked.vertex.enabled (cell_after_triangles (drawing_of state objects) (memories_of objects m) mode at triangles place old) old) (no_elements mode)
        ∙ both_same state.tracked.vertex.enabled old

    drawn-disabled : (objects : ObjectsView) (mode : ℕ) (at : ℕ → ℕ) (count : ℕ) (place : Place) (old : Cell) → state.tracked.vertex.enabled ≡ false → Drawn objects mode at count place old ≡ old
    unfolding cell_after_draw drawing_of stage_of
    drawn-disabled objects mode at count place old off =
        ap (λ (b : Bool). cond b (cell_after_triangles (drawing_of state objects) (memories_of objects m) mode at (triangle_count mode count) place old) old) off

    cell_alike : (some on : Bool) (mode : ℕ) (count : ℤ) (elements : ℕ) (at other : ℕ → ℕ) (place : Place) (old : Cell) → int_lt (pos 0) count ≡ some → state.tracked.vertex.enabled ≡ on
        → use_by state count elements ≡ None → (eqb elements 0 ≡ true → (number : ℕ) → at number ≡ other number) → Drawn a mode at (number_of count) place old ≡ Drawn b mode other (number_of count) place old
    cell_alike some false mode count elements at other place old is off none same =
        drawn-disabled a mode at (number_of count) place old off ∙ sym (drawn-disabled b mode other (number_of count) place old off)
    cell_alike false true mode count elements at other place old is on none same =
        let zero_of = none_counted count is in
        ap (λ (n : ℕ). Drawn a mode at n place old) zero_of ∙ drawn-nothing a mode at place old
        ∙ sym (ap (λ (n : ℕ). Drawn b mode other n place old) zero_of ∙ drawn-nothing b mode other place old)
    cell_alike true true mode count elements at other place old is on none same =
        let uses = uses_none state count elements none is on in
        let takes = no_buffers state count elements none is on in
        draws_alike (drawing_of state a) (memories_of a m) (memories_of b m) mode at other (number_of count)
        (λ enabled number below. (same takes.indices number, agree_at (at number) on takes.arrays)) place old
        ∙ ap (λ (drawing : Drawing). cell_after_draw drawing (memories_of b m) mode other (number_of count) place old) (drawing_of-unused state a b (uses.1))

    drawn_alike : (mode : ℕ) (count : ℤ) (elements : ℕ) (at other : ℕ → ℕ) → use_by state count elements ≡ None → (eqb elements 0 ≡ true → (number : ℕ) → at number ≡ other number)
        → frame_changed (Drawn a mode at (number_of count)) frame ≡ frame_changed (Drawn b mode other (number_of count)) frame
    drawn_alike mode count elements at other none same =
        frame_changed-alike (Drawn a mode at (number_of count)) (Drawn b mode other (number_of count)) frame
        (λ place old. cell_alike (int_lt (pos 0) count) state.tracked.vertex.enabled mode count elements at other place old refl refl none same)

    frame_no_event : (fault : Option GlError) (call : Call) → event_by fault state call m ≡ None → frame_after fault state frame a call m ≡ frame_after fault state frame b call m
    unfolding ask_of use_of
    frame_no_event (Some error) call none = refl
    frame_no_event None (Clear mask) none = refl
    frame_no_event None (DrawArrays mode first count) none = drawn_alike mode count 0 (λ number. number_of first + number) (λ number. number_of first + number) none (λ free number. refl)
    frame_no_event None (DrawElements mode count kind indices) none =
        let buffer = state.tracked.element_buffer in
        drawn_alike mode count buffer (place_in (Indexed buffer kind indices) (memories_of a m)) (place_in (Indexed buffer kind indices) (memories_of b m)) none
        (λ free number. ap (λ (memory : List Segment). index_numbered memory kind indices number) (same_memory buffer free))
    frame_no_event None _ none = refl

  -- where a call makes no event, its step is the same beside all objects
  pub own_step-no_event : (own : Own) (call : Call) → event_of own call m ≡ None → own_step own call m a ≡ own_step own call m b
  unfolding event_of own_step
  own_step-no_event own call none =
      let fault = fault_of own.state.tracked call in
      let At : FrameView → Stepped = λ frame. record { own = record { state = private_after fault own.state call m None; frame = frame }; reply = own_reply fault own call no_reply } in
      ap (λ (event : Option Event). own_step_with fault (given_back a event) own call m a) none
      ∙ ap At (frame_no_event own.state own.frame fault call none)
      ∙ sym (ap (λ (event : Option Event). own_step_with fault (given_back b event) own call m b) none)
