-- What writing a reply in parts leaves: the bytes of numbers one after another, and rows of pixels.
use Rattle.std.proofs.Common.{◌≡◌, ℕ, zero, suc, inl, inr, ◌+◌, ◌-◌, ◌*◌, ◌/◌, ◌<◌, ◌≤◌, ℤ, pos, negsuc, ◌≤ℤ◌, List, [], ◌∷◌, Option, Some, None, ◌++◌, length, slice_index, take, drop, refl, sym, ap, ◌∙◌, arith}
use Rattle.std.specs.List.{flat_map}
use Rattle.std.proofs.lemmas.Bool.{cases_lt}
use Rattle.std.proofs.lemmas.List.{length-append, get_or_append_left, get_or-append_right, take_all, drop_all}
use Rattle.std.proofs.lemmas.Int.{ints}
use Rattle.gl_memory.specs.ClientMemory.{byte_written, written}
use Rattle.gl_memory.proofs.Writing.{byte_written-inside, byte_written-before, byte_written-behind, length-written, slice_index-written, is_written, written-past}
use Rattle.gl_words.specs.declared.call.Call.{Call}
use Rattle.gl_words.specs.declared.call.Call.TheVariants.{ReadPixels}
use Rattle.gl_tracked.specs.declared.tracked.Tracked.{Tracked}
use Rattle.driver_trait.specs.Reply.{Replied, Nothing, Numbers, Bytes}
use Rattle.driver_trait.specs.Output.{bytes_written, memory_after, number_bytes, numbers_place, numbers_written, pitch_of, pixels_written, rows_written}

-- no bytes leave memory as it was
pub written-nil : (memory : List ℕ) (place : ℕ) → written memory place [] ≡ memory
written-nil memory place = sym (is_written memory memory place [] refl (λ at h. elim (cases_lt at place) [
  | inl before ↦ sym (byte_written-before memory place [] at before)
  | inr from ↦ sym (byte_written-behind memory place [] at (omega arith))
]))

module _ (memory : List ℕ) (place : ℕ) (first others : List ℕ) where
  -- the bytes at a place after two writes, one behind the other, are those after one write of both
  byte_written-append : (at : ℕ) → at < length memory
      → byte_written (written memory place first) (place + length first) others at ≡ byte_written memory place (first ++ others) at
  byte_written-append at h =
      let both : length (first ++ others) ≡ length first + length others = length-append first others in
      let inner = slice_index-written memory place first at h in
      elim (cases_lt at (place + length first)) [
        | inl below ↦
            byte_written-before (written memory place first) (place + length first) others at below ∙ inner ∙ elim (cases_lt at place) [
              | inl before ↦ byte_written-before memory place first at before ∙ sym (byte_written-before memory place (first ++ others) at before)
              | inr from ↦
                  byte_written-inside memory place first at from below
                  ∙ sym (get_or_append_left first others 0 (at - place) (omega arith))
                  ∙ sym (byte_written-inside memory place (first ++ others) at from (omega arith))
            ]
        | inr from ↦ elim (cases_lt at (place + length first + length others)) [
          | inl below ↦
              byte_written-inside (written memory place first) (place + length first) others at from below
              ∙ ap (slice_index others) (omega arith)
              ∙ sym (get_or-append_right first others (length first) (at - place) 0 refl (omega arith))
              ∙ sym (byte_written-inside memory place (first ++ others) at (omega arith) (omega arith))
          | inr behind ↦
              byte_written-behind (written memory place first) (place + length first) others at behind
              ∙ inner
              ∙ byte_written-behind memory place first at from
              ∙ sym (byte_written-behind memory place (first ++ others) at (omega arith))
        ]
      ]

  -- two writes, one behind the other, are one
  pub written-append : written (written memory place first) (place + length first) others ≡ written memory place (first ++ others)
  written-append = is_written memory (written (written memory place first) (place + length first) others) place (first ++ others)
      (length-written (written memory place first) (place + length first) others ∙ length-written memory place first)
      (λ at h. slice_index-written (written memory place first) (place + length first) others at (omega (arith, length-written memory place first)) ∙ byte_written-append at h)

-- a number is four bytes
pub length-number_bytes : (number : ℤ) → length (number_bytes number) ≡ 4
unfolding number_bytes
length-number_bytes number = refl

-- of some numbers the first is written, and then the others behind it
pub written-number : (memory : List ℕ) (place : ℕ) (number : ℤ) (others : List ℤ)
    → written (written memory place (number_bytes number)) (place + 4) (flat_map number_bytes others) ≡ written memory place (flat_map number_bytes (number ∷ others))
written-number memory place number others =
    ap (λ (n : ℕ). written (written memory place (number_bytes number)) (place + n) (flat_map number_bytes others)) (sym (length-number_bytes number))
    ∙ written-append memory place (number_bytes number) (flat_map number_bytes others)

-- rows without bytes leave memory as it was
pub rows_written-nil : (left place row pitch : ℕ) (memory : List ℕ) → rows_written left place row pitch [] memory ≡ memory
unfolding rows_written
rows_written-nil zero place row pitch memory = refl
rows_written-nil (suc left) place row pitch memory =
    ap (λ (bytes : List ℕ). rows_written left (place + pitch) row pitch bytes (written memory place (take row []))) (drop_all row [] (omega arith))
    ∙ rows_written-nil left (place + pitch) row pitch (written memory place (take row []))
    ∙ ap (written memory place) (take_all row [] (omega arith))
    ∙ written-nil memory place

-- rows from the end on leave memory as it was
pub rows_written-past : (left place row pitch : ℕ) (bytes memory : List ℕ) → length memory ≤ place → rows_written left place row pitch bytes memory ≡ memory
unfolding rows_written
rows_written-past zero place row pitch bytes memory past = refl
rows_written-past (suc left) place row pitch bytes memory past =
    rows_written-past left (place + pitch) row pitch (drop row bytes) (written memory place (take row bytes)) (omega (arith, length-written memory place (take row bytes)))
    ∙ sym (written-past memory place (take row bytes) past)

-- of some rows the first is written, and then the others
pub rows_written-first : (left place row pitch : ℕ) (bytes memory : List ℕ) → 0 < left
    → rows_written (left - 1) (place + pitch) row pitch (drop row bytes) (written memory place (take row bytes)) ≡ rows_written left place row pitch bytes memory
unfolding rows_written
rows_written-first zero place row pitch bytes memory some = absurd (omega arith)
rows_written-first (suc left) place row pitch bytes memory some =
    let one_less : suc left - 1 ≡ left = omega arith in
    ap (λ (n : ℕ). rows_written n (place + pitch) row pitch (drop row bytes) (written memory place (take row bytes))) one_less

-- no row is left
pub rows_written-none : (left place row pitch : ℕ) (bytes memory : List ℕ) → left ≤ 0 → rows_written left place row pitch bytes memory ≡ memory
unfolding rows_written
rows_written-none zero place row pitch bytes memory none = refl
rows_written-none (suc left) place row pitch bytes memory none = absurd (omega arith)

-- the pitch where there is an alignment
pub pitch_of-step : (row step : ℕ) → 0 < step → (row + (step - 1)) / step * step ≡ pitch_of row (pos step)
unfolding pitch_of
pitch_of-step row zero some = absurd (omega arith)
pitch_of-step row (suc less) some = ap (λ (n : ℕ). (row + n) / suc less * suc less) (omega arith)

-- the pitch where there is none
pub pitch_of-none : (row : ℕ) (alignment : ℤ) → alignment ≤ℤ pos 0 → row ≡ pitch_of row alignment
unfolding pitch_of
pitch_of-none row (pos zero) none = refl
pitch_of-none row (pos (suc less)) none = absurd (omega (arith, ints))
pitch_of-none row (negsuc below) none = refl

-- a rectangle without width is no pixels
pub pixels_written-narrow : (width height : ℤ) (place : ℕ) (alignment : ℤ) (bytes memory : List ℕ) → width ≤ℤ pos 0
    → memory ≡ pixels_written width height place alignment bytes memory
pixels_written-narrow (pos zero) height place alignment bytes memory narrow = refl
pixels_written-narrow (pos (suc width)) height place alignment bytes memory narrow = absurd (omega (arith, ints))
pixels_written-narrow (negsuc below) height place alignment bytes memory narrow = refl

-- a rectangle without height is no pixels
pub pixels_written-flat : (width height : ℤ) (place : ℕ) (alignment : ℤ) (bytes memory : List ℕ) → height ≤ℤ pos 0
    → memory ≡ pixels_written width height place alignment bytes memory
pixels_written-flat (pos zero) height place alignment bytes memory flat = refl
pixels_written-flat (negsuc below) height place alignment bytes memory flat = refl
pixels_written-flat (pos (suc width)) (negsuc below) place alignment bytes memory flat = refl
pixels_written-flat (pos (suc width)) (pos (suc height)) place alignment bytes memory flat = absurd (omega (arith, ints))
pixels_written-flat (pos (suc width)) (pos zero) place alignment bytes memory flat =
    sym (rows_written-none 0 place (4 * suc width) (pitch_of (4 * suc width) alignment) bytes memory (omega arith))

-- where nothing is replied nothing is written
pub memory_after-nothing : (tracked : Tracked) (call : Call) (memory : List ℕ) → memory_after tracked call Nothing memory ≡ memory
unfolding memory_after
memory_after-nothing tracked call memory = refl

length-numbers_written : (place : Option ℕ) (numbers : List ℤ) (memory : List ℕ) → length (numbers_written place numbers memory) ≡ length memory
length-numbers_written None numbers memory = refl
length-numbers_written (Some place) numbers memory = length-written memory place (flat_map number_bytes numbers)

length-rows_written : (left place row pitch : ℕ) (bytes memory : List ℕ) → length (rows_written left place row pitch bytes memory) ≡ length memory
unfolding rows_written
length-rows_written zero place row pitch bytes memory = refl
length-rows_written (suc left) place row pitch bytes memory =
    length-rows_written left (place + pitch) row pitch (drop row bytes) (written memory place (take row bytes)) ∙ length-written memory place (take row bytes)

length-pixels_written : (width height : ℤ) (place : ℕ) (alignment : ℤ) (bytes memory : List ℕ) → length (pixels_written width height place alignment bytes memory) ≡ length memory
length-pixels_written (pos (suc width)) (pos height) place alignment bytes memory =
    length-rows_written height place (4 * suc width) (pitch_of (4 * suc width) alignment) bytes memory
length-pixels_written (pos (suc width)) (negsuc below) place alignment bytes memory = refl
length-pixels_written (pos zero) height place alignment bytes memory = refl
length-pixels_written (negsuc below) height place alignment bytes memory = refl

length-bytes_written : (tracked : Tracked) (call : Call) (bytes memory : List ℕ) → length (bytes_written tracked call bytes memory) ≡ length memory
length-bytes_written tracked (ReadPixels x y width height format kind pixels) bytes memory = length-pixels_written width height pixels tracked.pack_alignment bytes memory
length-bytes_written tracked _ bytes memory = refl

-- client memory keeps its length
pub length-memory_after : (tracked : Tracked) (call : Call) (reply : Replied) (memory : List ℕ) → length (memory_after tracked call reply memory) ≡ length memory
unfolding memory_after
length-memory_after tracked call Nothing memory = refl
length-memory_after tracked call (Numbers numbers) memory = length-numbers_written (numbers_place call) numbers memory
length-memory_after tracked call (Bytes bytes) memory = length-bytes_written tracked call bytes memory
