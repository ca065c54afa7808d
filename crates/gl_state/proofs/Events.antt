-- The event of a call is the same on memories that agree where the call reads.
use Rattle.std.proofs.Common.{◌≡◌, ℕ, ◌*◌, ℤ, Bool, true, false, cond, eqb, List, [], ◌∷◌, Option, Some, None, replicate, refl, sym, subst, ap}
use Rattle.std.proofs.lemmas.List.Elements.{All-head}
use Rattle.gl_words.specs.declared.call.Call.{Call}
use Rattle.gl_words.specs.declared.call.Call.TheVariants.{BindBuffer, BindTexture, BufferData, BufferSubData, DeleteBuffers, DeleteTextures, IsBuffer, IsTexture, TexImage2D, TexSubImage2D}
use Rattle.gl_words.specs.declared.error.GlError.{GlError}
use Rattle.gl_memory.specs.Piece.{Agree, bytes_from}
use Rattle.gl_memory.specs.Segment.{Segment, byte_at}
use Rattle.gl_memory.specs.declared.piece.Piece.{Piece}
use Rattle.gl_objects.specs.declared.event.Event.{Event}
use Rattle.gl_objects.specs.declared.event.Event.TheVariants as ev
use Rattle.gl_objects.specs.declared.kind.Kind.TheVariants as kinds
use Rattle.gl_tracked.specs.Count.{count_of}
use Rattle.gl_tracked.specs.Fault.{bound_buffer, fault_of, image_fault, is_among, subimage_fault}
use Rattle.gl_tracked.specs.Enumerants.{texture_formats}
use Rattle.gl_tracked.specs.Images.{side_of}
use Rattle.gl_tracked.specs.Ranges.{range_of_bytes, range_of_image, range_of_names, ranges_of_data, ranges_of_image}
use Rattle.gl_tracked.specs.Reads.{AgreesOn}
use Rattle.gl_tracked.specs.Step.{ranges_of, reads_all, reads_by, reads_of}
use Rattle.gl_tracked.proofs.Agreeing.{SameIn, agrees_ranges, names_at-same, same_map}
use Rattle.gl_tracked.proofs.Faults.{first_passed}
use Rattle.gl_tracked.specs.declared.tracked.Tracked.{Tracked}
use Rattle.texture_units.specs.Format.{size_of}
use Rattle.gl_state.specs.declared.ask.Ask.{Ask}
use Rattle.gl_state.specs.declared.ask.Ask.TheVariants as asks
use Rattle.gl_state.specs.Event.{ask_of, asked_or, event_asked, event_by, pitch_in, texture_bound, uploaded, use_of}
use Rattle.gl_state.specs.Gets.{active_unit}
use Rattle.gl_state.specs.Images.{format_of, image_uploaded, rows_from}
use Rattle.gl_state.specs.Private.{PrivateView}
use Rattle.gl_state.proofs.ImageRows.{image-same, size_of-format_of, uploaded_image-same}

-- where no error is found, an image has a known format
image_format : (tracked : Tracked) (target : ℕ) (level internalformat width height border : ℤ) (format kind pixels : ℕ)
    → fault_of tracked (TexImage2D target level internalformat width height border format kind pixels) ≡ None → is_among texture_formats format ≡ true
unfolding fault_of image_fault
image_format tracked target level internalformat width height border format kind pixels none =
    let known = first_passed (eqb target 0x0DE1) _ _ none in
    let has_format = first_passed (is_among texture_formats format) _ _ (known.1) in
    has_format.0

-- and so has a part of one
part_format : (tracked : Tracked) (target : ℕ) (level xoffset yoffset width height : ℤ) (format kind pixels : ℕ)
    → fault_of tracked (TexSubImage2D target level xoffset yoffset width height format kind pixels) ≡ None → is_among texture_formats format ≡ true
unfolding fault_of subimage_fault
part_format tracked target level xoffset yoffset width height format kind pixels none =
    let known = first_passed (eqb target 0x0DE1) _ _ none in
    let has_format = first_passed (is_among texture_formats format) _ _ (known.1) in
    has_format.0

module _ (m n : List Segment) where
  bytes_from-same : (place : ℕ) (size : ℤ) → SameIn m n (range_of_bytes place size) → bytes_from m place (count_of size) ≡ bytes_from n place (count_of size)
  unfolding bytes_from range_of_bytes
  bytes_from-same place size same =
      same_map (byte_at m) (byte_at n) place (count_of size) (λ at low high. same at (record { from = low; below = high }))

  uploaded_by : (zero : Bool) (zeros one other : List ℕ) (range : Piece) → (SameIn m n range → one ≡ other) → Agree m n (cond zero [] (range ∷ [])) → cond zero zeros one ≡ cond zero zeros other
  uploaded_by true zeros one other range same agree = refl
  uploaded_by false zeros one other range same agree = same (All-head (SameIn m n) range [] agree)

  uploaded-same : (place : ℕ) (size : ℤ) → Agree m n (ranges_of_data place size) → uploaded m place (count_of size) ≡ uploaded n place (count_of size)
  unfolding uploaded ranges_of_data
  uploaded-same place size agree =
      uploaded_by (eqb place 0) (replicate (count_of size) 0) (bytes_from m place (count_of size)) (bytes_from n place (count_of size)) (range_of_bytes place size) (bytes_from-same place size) agree

  unless_zero-same : (zero : Bool) (ask : Ask) (used : Option Event) → event_asked ask m ≡ event_asked ask n → asked_or (cond zero None (Some ask)) used m ≡ asked_or (cond zero None (Some ask)) used n
  unless_zero-same true ask used same = refl
  unless_zero-same false ask used same = ap (λ (event : Event). Some event) same

  -- images are the same on memories that agree where they lie, by the bytes of a texel of their format
  images_same : (tracked : Tracked) (format : ℕ) (width height : ℤ) (place : ℕ) → is_among texture_formats format ≡ true → Agree m n (ranges_of_image tracked format width height place)
      → image_uploaded m place (pitch_in tracked format width) (side_of width * size_of (format_of format)) (side_of height) ≡ image_uploaded n place (pitch_in tracked format width) (side_of width * size_of (format_of format)) (side_of height)
  images_same tracked format width height place known agree =
      subst (λ (size : ℕ). image_uploaded m place (pitch_in tracked format width) (side_of width * size) (side_of height) ≡ image_uploaded n place (pitch_in tracked format width) (side_of width * size) (side_of height))
      (sym (size_of-format_of format known)) (uploaded_image-same m n tracked format width height place agree)

  parts_same : (tracked : Tracked) (format : ℕ) (width height : ℤ) (place : ℕ) → is_among texture_formats format ≡ true → Agree m n (range_of_image tracked format width height place ∷ [])
      → rows_from m place (pitch_in tracked format width) (side_of width * size_of (format_of format)) (side_of height) ≡ rows_from n place (pitch_in tracked format width) (side_of width * size_of (format_of format)) (side_of height)
  parts_same tracked format width height place known agree =
      subst (λ (size : ℕ). rows_from m place (pitch_in tracked format width) (side_of width * size) (side_of height) ≡ rows_from n place (pitch_in tracked format width) (side_of width * size) (side_of height))
      (sym (size_of-format_of format known))
      (image-same m n tracked format width height place (All-head (SameIn m n) (range_of_image tracked format width height place) [] agree))

  event_without_fault-reads : (p : PrivateView) (call : Call) → fault_of p.tracked call ≡ None → Agree m n (ranges_of p.tracked call m) → asked_or (ask_of p call) (use_of p call) m ≡ asked_or (ask_of p call) (use_of p call) n
  unfolding ask_of event_asked ranges_of
  event_without_fault-reads p (BindBuffer target buffer) none agree = unless_zero-same (eqb buffer 0) (asks.Bind kinds.Buffer buffer) (use_of p (BindBuffer target buffer)) refl
  event_without_fault-reads p (BindTexture target texture) none agree = unless_zero-same (eqb texture 0) (asks.Bind kinds.Texture texture) (use_of p (BindTexture target texture)) refl
  event_without_fault-reads p (BufferData target size source usage) none agree =
      ap (λ (bytes : List ℕ). Some (ev.BufferBytes (bound_buffer p.tracked target) bytes)) (uploaded-same source size agree)
  event_without_fault-reads p (BufferSubData target offset size source) none agree =
      ap (λ (bytes : List ℕ). Some (ev.BufferPart (bound_buffer p.tracked target) (count_of offset) bytes)) (bytes_from-same source size (All-head (SameIn m n) (range_of_bytes source size) [] agree))
  event_without_fault-reads p (DeleteBuffers count names) none agree =
      ap (λ (all : List ℕ). Some (ev.Delete kinds.Buffer all)) (names_at-same m n names count (All-head (SameIn m n) (range_of_names names count) [] agree))
  event_without_fault-reads p (DeleteTextures count names) none agree =
      ap (λ (all : List ℕ). Some (ev.Delete kinds.Texture all)) (names_at-same m n names count (All-head (SameIn m n) (range_of_names names count) [] agree))
  event_without_fault-reads p (IsBuffer buffer) none agree = unless_zero-same (eqb buffer 0) (asks.Is kinds.Buffer buffer) (use_of p (IsBuffer buffer)) refl
  event_without_fault-reads p (IsTexture texture) none agree = unless_zero-same (eqb texture 0) (asks.Is kinds.Texture texture) (use_of p (IsTexture texture)) refl
  event_without_fault-reads p (TexImage2D target level internalformat width height border format kind pixels) none agree =
      let name = texture_bound p (active_unit p) in
      ap (λ (bytes : List ℕ). Some (ev.Image name (format_of format) (side_of width) (side_of height) bytes))
      (images_same p.tracked format width height pixels (image_format p.tracked target level internalformat width height border format kind pixels none) agree)
  event_without_fault-reads p (TexSubImage2D target level xoffset yoffset width height format kind pixels) none agree =
      let name = texture_bound p (active_unit p) in
      ap (λ (bytes : List ℕ). Some (ev.ImagePart name (format_of format) (count_of xoffset) (count_of yoffset) (side_of width) (side_of height) bytes))
      (parts_same p.tracked format width height pixels (part_format p.tracked target level xoffset yoffset width height format kind pixels none) agree)
  event_without_fault-reads p _ none agree = refl

  event_by-reads : (fault : Option GlError) (all : Bool) (p : PrivateView) (call : Call) → fault_of p.tracked call ≡ fault → AgreesOn m n (reads_by fault all (ranges_of p.tracked call m)) → event_by fault p call m ≡ event_by fault p call n
  event_by-reads None all p call is agree = event_without_fault-reads p call is (agrees_ranges m n all (ranges_of p.tracked call m) agree)
  event_by-reads (Some error) all p call is agree = refl

-- the event is the same on memories that agree where the call reads
pub event-reads : (p : PrivateView) (call : Call) (m n : List Segment) → AgreesOn m n (reads_of p.tracked call m) → event_by (fault_of p.tracked call) p call m ≡ event_by (fault_of p.tracked call) p call n
unfolding reads_of
event-reads p call m n agree = event_by-reads m n (fault_of p.tracked call) (reads_all p.tracked call) p call refl agree
