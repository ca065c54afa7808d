-- Images without padding: what their rows are, one more; that they are the same on memories that agree where an image lies; and what a call without an error has passed that gives one.
use Rattle.std.proofs.Common.{◌≡◌, ℕ, zero, suc, ◌+◌, ◌-◌, ◌*◌, ◌<◌, ◌≤◌, ℤ, Bool, true, false, ◌||◌, cond, eqb, List, [], ◌∷◌, ◌++◌, length, replicate, refl, sym, ap, subst, ◌∙◌, inl, inr, arith}
use Rattle.std.specs.List.{flat_map, range_with_len}
use Rattle.std.proofs.Math.Nat.{mul-le-mul_right}
use Rattle.std.proofs.lemmas.Bool.{cases_eq, ne_eqb, true≢false}
use Rattle.std.proofs.lemmas.Grind.{flat_map-append}
use Rattle.std.proofs.lemmas.List.{append-nil}
use Rattle.std.proofs.lemmas.List.Elements.{All-head}
use Rattle.std.proofs.lemmas.List.FromFn.{length-map-range_with_len}
use Rattle.gl_memory.specs.Number.{i32_at, u32_at}
use Rattle.gl_memory.specs.Piece.{Agree, bytes_from}
use Rattle.gl_memory.specs.Segment.{Segment, byte_at}
use Rattle.gl_memory.specs.declared.piece.Piece.{Piece}
use Rattle.std.specs.Int.{cast_signed, w32}
use Rattle.fixed_transform.proofs.Matrices.{cons_four}
use Rattle.texture_units.specs.Format.{size_of}
use Rattle.gl_tracked.specs.declared.tracked.Tracked.{Tracked}
use Rattle.gl_tracked.specs.Count.{count_of}
use Rattle.gl_tracked.specs.Enumerants.{texture_formats}
use Rattle.gl_tracked.specs.Fault.{is_among}
use Rattle.gl_tracked.specs.Images.{image_length, pitch_of, side_of, texel_size}
use Rattle.gl_tracked.specs.Ranges.{range_of_colour, range_of_image, ranges_of_image}
use Rattle.gl_tracked.proofs.Agreeing.{SameIn, same_map}
use Rattle.gl_objects.proofs.FreeNames.{range_more}
use Rattle.gl_state.specs.Event.{pitch_in}
use Rattle.gl_state.specs.Images.{colour_from, format_of, image_uploaded, part_from, rows_from}
use Rattle.gl_state.specs.Settings.{clamped_to_one}

-- no bytes, and so many
pub bytes_from-none : (memory : List Segment) (place : ℕ) → bytes_from memory place 0 ≡ []
unfolding bytes_from
bytes_from-none memory place = refl

pub length-bytes_from : (memory : List Segment) (place count : ℕ) → length (bytes_from memory place count) ≡ count
unfolding bytes_from
length-bytes_from memory place count = length-map-range_with_len (byte_at memory) place count

-- the bytes of no rows
pub rows_from-none : (memory : List Segment) (source pitch run : ℕ) → rows_from memory source pitch run 0 ≡ []
unfolding rows_from
rows_from-none memory source pitch run = refl

-- the bytes of one more row stand behind the others
pub rows_from-more : (memory : List Segment) (source pitch run rows : ℕ) → rows_from memory source pitch run (rows + 1) ≡ rows_from memory source pitch run rows ++ bytes_from memory (source + rows * pitch) run
unfolding rows_from
rows_from-more memory source pitch run rows =
    let row : ℕ → List ℕ = λ number. bytes_from memory (source + number * pitch) run in
    let next : rows + 1 ≡ suc rows = omega arith in
    let last : 0 + rows ≡ rows = omega arith in
    ap (λ (count : ℕ). flat_map row (range_with_len 0 count)) next
    ∙ ap (flat_map row) (range_more 0 rows)
    ∙ ap (λ (number : ℕ). flat_map row (range_with_len 0 rows ++ number ∷ [])) last
    ∙ flat_map-append row (range_with_len 0 rows) (rows ∷ [])
    ∙ ap (λ (last : List ℕ). flat_map row (range_with_len 0 rows) ++ last) (append-nil (row rows))

-- functions that are the same at each number of a range make the same list of it, list after list
same_flat : {A : Type 0} (f g : ℕ → List A) (first count : ℕ) → ((number : ℕ) → first ≤ number → number < first + count → f number ≡ g number)
    → flat_map f (range_with_len first count) ≡ flat_map g (range_with_len first count)
same_flat f g first zero same = refl
same_flat f g first (suc count) same =
    cc (same first (omega arith) (omega arith), same_flat f g (first + 1) count (λ number from below. same number (omega arith) (omega arith)))

-- a byte of a row lies where the image does
within : (source pitch run rows row : ℕ) → row < rows → source + row * pitch + run ≤ source + ((rows - 1) * pitch + run)
within source pitch run rows row below =
    let before : row ≤ rows - 1 = omega arith in
    let first : row * pitch ≤ (rows - 1) * pitch = mul-le-mul_right pitch before in
    omega (arith, first)

-- an image has so many bytes where it has a texel
length_by : (no_width no_height : Bool) (bytes : ℕ) → no_width ≡ false → no_height ≡ false → cond (no_width || no_height) 0 bytes ≡ bytes
length_by false false bytes wide high = refl
length_by true no_height bytes wide high = absurd (true≢false wide)
length_by false true bytes wide high = absurd (true≢false high)

not_none : (number : ℕ) → 0 < number → eqb number 0 ≡ false
not_none number some = ne_eqb number 0 (λ is. absurd (omega (arith, is)))

image_length-some : (alignment texel width height : ℕ) → 0 < width * texel → 0 < height → image_length alignment texel width height ≡ (height - 1) * pitch_of alignment (width * texel) + width * texel
unfolding image_length
image_length-some alignment texel zero height some high = absurd (omega (arith, some))
image_length-some alignment texel (suc others) height some high =
    length_by (eqb (suc others) 0) (eqb height 0) ((height - 1) * pitch_of alignment (suc others * texel) + suc others * texel) (not_none (suc others) (omega arith)) (not_none height high)

module _ (m n : List Segment) where
  rows_same : (source pitch run rows : ℕ) → ((at : ℕ) → source ≤ at → 0 < run → 0 < rows → at < source + ((rows - 1) * pitch + run) → byte_at m at ≡ byte_at n at)
      → rows_from m source pitch run rows ≡ rows_from n source pitch run rows
  unfolding rows_from bytes_from
  rows_same source pitch run rows same =
      same_flat (λ row. bytes_from m (source + row * pitch) run) (λ row. bytes_from n (source + row * pitch) run) 0 rows
      (λ row from below. same_map (byte_at m) (byte_at n) (source + row * pitch) run
      (λ at low high. same at (omega arith) (omega arith) (omega arith) (omega (arith, within source pitch run rows row (omega arith)))))

  -- the bytes of an image are the same on memories that agree where it lies
  pub image-same : (tracked : Tracked) (format : ℕ) (width height : ℤ) (place : ℕ) → SameIn m n (range_of_image tracked format width height place)
      → rows_from m place (pitch_in tracked format width) (side_of width * texel_size format) (side_of height) ≡ rows_from n place (pitch_in tracked format width) (side_of width * texel_size format) (side_of height)
  unfolding pitch_in range_of_image
  image-same tracked format width height place same =
      let run = side_of width * texel_size format in
      let pitch = pitch_of (count_of tracked.unpack_alignment) run in
      rows_same place pitch run (side_of height)
      (λ at low some high below.
      let whole = image_length-some (count_of tracked.unpack_alignment) (texel_size format) (side_of width) (side_of height) some high in
      same at (record { from = low; below = subst (λ (bytes : ℕ). at < place + bytes) (sym whole) below }))

  image_uploaded_by : (none : Bool) (zeros one other : List ℕ) (range : Piece) → (SameIn m n range → one ≡ other) → Agree m n (cond none [] (range ∷ [])) → cond none zeros one ≡ cond none zeros other
  image_uploaded_by true zeros one other range same agree = refl
  image_uploaded_by false zeros one other range same agree = same (All-head (SameIn m n) range [] agree)

  -- and so are those that TexImage2D takes
  pub uploaded_image-same : (tracked : Tracked) (format : ℕ) (width height : ℤ) (place : ℕ) → Agree m n (ranges_of_image tracked format width height place)
      → image_uploaded m place (pitch_in tracked format width) (side_of width * texel_size format) (side_of height) ≡ image_uploaded n place (pitch_in tracked format width) (side_of width * texel_size format) (side_of height)
  unfolding image_uploaded ranges_of_image
  uploaded_image-same tracked format width height place agree =
      let run = side_of width * texel_size format in
      image_uploaded_by (eqb place 0) (replicate (side_of height * run) 0) (rows_from m place (pitch_in tracked format width) run (side_of height)) (rows_from n place (pitch_in tracked format width) run (side_of height))
      (range_of_image tracked format width height place) (image-same tracked format width height place) agree

  module _ (place : ℕ) (same : SameIn m n (range_of_colour place)) where
    colour_byte : (at : ℕ) → place ≤ at → at < place + 16 → byte_at m at ≡ byte_at n at
    unfolding range_of_colour
    colour_byte at from below = same at (record { from = from; below = below })

    part_same : (part : ℕ) → part < 4 → part_from m place part ≡ part_from n place part
    unfolding i32_at u32_at
    part_same part few =
        let at = place + 4 * part in
        let read : u32_at m at ≡ u32_at n at =
        cc (
          colour_byte at (omega arith) (omega arith),
          colour_byte (at + 1) (omega arith) (omega arith),
          colour_byte (at + 2) (omega arith) (omega arith),
          colour_byte (at + 3) (omega arith) (omega arith),
        ) in
        ap (λ (number : ℕ). clamped_to_one (cast_signed w32 number)) read

    -- a colour is the same on memories that agree where it lies
    pub colour_from-same : colour_from m place ≡ colour_from n place
    unfolding colour_from
    colour_from-same = cons_four (part_same 0 (omega arith)) (part_same 1 (omega arith)) (part_same 2 (omega arith)) (part_same 3 (omega arith)) refl

-- a texel of a format with a number has as many bytes as the number tells
abbrev SizeTold : ℕ → Type 0
SizeTold format = size_of (format_of format) ≡ texel_size format

not_known : (known format : ℕ) → (format ≡ known → ⊥) → eqb known format ≡ false
not_known known format other = ne_eqb known format (λ is. other (sym is))

among_by : (alpha rgb rgba luminance both : Bool) → alpha ≡ false → rgb ≡ false → rgba ≡ false → luminance ≡ false → both ≡ false → (alpha || (rgb || (rgba || (luminance || (both || false))))) ≡ false
among_by false false false false false a b c d e = refl
among_by true rgb rgba luminance both a b c d e = absurd (true≢false a)
among_by false true rgba luminance both a b c d e = absurd (true≢false b)
among_by false false true luminance both a b c d e = absurd (true≢false c)
among_by false false false true both a b c d e = absurd (true≢false d)
among_by false false false false true a b c d e = absurd (true≢false e)

none_known : (format : ℕ) → (format ≡ 0x1906 → ⊥) → (format ≡ 0x1907 → ⊥) → (format ≡ 0x1908 → ⊥) → (format ≡ 0x1909 → ⊥) → (format ≡ 0x190A → ⊥) → is_among texture_formats format ≡ false
unfolding is_among
none_known format alpha rgb rgba luminance both =
    among_by (eqb 0x1906 format) (eqb 0x1907 format) (eqb 0x1908 format) (eqb 0x1909 format) (eqb 0x190A format)
    (not_known 0x1906 format alpha) (not_known 0x1907 format rgb) (not_known 0x1908 format rgba) (not_known 0x1909 format luminance) (not_known 0x190A format both)

told_alpha : SizeTold 0x1906
unfolding format_of texel_size
told_alpha = refl

told_rgb : SizeTold 0x1907
unfolding format_of texel_size
told_rgb = refl

told_rgba : SizeTold 0x1908
unfolding format_of texel_size
told_rgba = refl

told_luminance : SizeTold 0x1909
unfolding format_of texel_size
told_luminance = refl

told_both : SizeTold 0x190A
unfolding format_of texel_size
told_both = refl

pub size_of-format_of : (format : ℕ) → is_among texture_formats format ≡ true → size_of (format_of format) ≡ texel_size format
size_of-format_of format known =
    elim (cases_eq format 0x1906) [
      | inl is ↦ subst SizeTold (sym is) told_alpha
      | inr alpha ↦ elim (cases_eq format 0x1907) [
        | inl is ↦ subst SizeTold (sym is) told_rgb
        | inr rgb ↦ elim (cases_eq format 0x1908) [
          | inl is ↦ subst SizeTold (sym is) told_rgba
          | inr rgba ↦ elim (cases_eq format 0x1909) [
            | inl is ↦ subst SizeTold (sym is) told_luminance
            | inr luminance ↦ elim (cases_eq format 0x190A) [
              | inl is ↦ subst SizeTold (sym is) told_both
              | inr both ↦ absurd (true≢false (sym known ∙ none_known format alpha rgb rgba luminance both))
            ]
          ]
        ]
      ]
    ]
