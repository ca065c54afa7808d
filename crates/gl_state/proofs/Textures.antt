-- What a call without an error has passed that gives a texture an image or a parameter.
use Rattle.std.proofs.Common.{◌≡◌, ◌≢◌, ℕ, ◌*◌, ℤ, pos, Bool, true, cond, eqb, List, [], ◌∷◌, length, None, refl, sym, ap, subst, ◌∙◌}
use Rattle.std.specs.Prelude.{All, nat_le}
use Rattle.std.proofs.Math.Nat.{mul_assoc, mul_comm}
use Rattle.std.proofs.lemmas.Bool.{true≢false}
use Rattle.std.proofs.lemmas.List.Elements.{All-cons, All-contains, All-nil}
use Rattle.gl_words.specs.declared.call.Call.TheVariants.{TexImage2D, TexParameteri}
use Rattle.texture_units.specs.declared.format.Format.{Format}
use Rattle.texture_units.specs.Format.{size_of}
use Rattle.texture_units.specs.Texture.{HasItsBytes, IsSide, IsTexture, is_power, rectangle_of}
use Rattle.texture_units.proofs.Sides.{side_from_test}
use Rattle.gl_objects.specs.Sampling.{IsParameter, values_taken}
use Rattle.gl_tracked.specs.declared.tracked.Tracked.{Tracked}
use Rattle.gl_state.specs.declared.ask.Ask.{Ask}
use Rattle.gl_state.specs.declared.ask.Ask.TheVariants as asks
use Rattle.gl_state.specs.Event.{is_image}
use Rattle.gl_tracked.specs.Enumerants.{texture_formats, texture_parameters, values_of_parameter}
use Rattle.gl_tracked.specs.Fault.{fault_of, image_fault, is_among, is_image_side, is_internal_format, parameter_fault, size_is_among}
use Rattle.gl_tracked.specs.Images.{image_sides, side_of}
use Rattle.gl_tracked.proofs.Faults.{first_passed, size_among-contains}
use Rattle.std.specs.Ordering.{int_eq}

-- a power of two up to 256 is a side that a texture may have
side_is : (number : ℕ) → is_power number ≡ true → nat_le number 256 ≡ true → IsSide (side_of (pos number))
unfolding side_of
side_is number power few = subst IsSide (sym (ap (λ (b : Bool). cond b number 0) few)) (side_from_test number true (sym power) refl)

-- and a signed number that is such a side
abbrev IsSigned : ℤ → Type 0
IsSigned side = IsSide (side_of side)

are_sides : All IsSigned image_sides
unfolding is_power
are_sides =
    All-cons IsSigned (pos 1) (pos 2 ∷ pos 4 ∷ pos 8 ∷ pos 16 ∷ pos 32 ∷ pos 64 ∷ pos 128 ∷ pos 256 ∷ []) (side_is 1 refl refl)
    (All-cons IsSigned (pos 2) (pos 4 ∷ pos 8 ∷ pos 16 ∷ pos 32 ∷ pos 64 ∷ pos 128 ∷ pos 256 ∷ []) (side_is 2 refl refl)
    (All-cons IsSigned (pos 4) (pos 8 ∷ pos 16 ∷ pos 32 ∷ pos 64 ∷ pos 128 ∷ pos 256 ∷ []) (side_is 4 refl refl)
    (All-cons IsSigned (pos 8) (pos 16 ∷ pos 32 ∷ pos 64 ∷ pos 128 ∷ pos 256 ∷ []) (side_is 8 refl refl)
    (All-cons IsSigned (pos 16) (pos 32 ∷ pos 64 ∷ pos 128 ∷ pos 256 ∷ []) (side_is 16 refl refl)
    (All-cons IsSigned (pos 32) (pos 64 ∷ pos 128 ∷ pos 256 ∷ []) (side_is 32 refl refl)
    (All-cons IsSigned (pos 64) (pos 128 ∷ pos 256 ∷ []) (side_is 64 refl refl)
    (All-cons IsSigned (pos 128) (pos 256 ∷ []) (side_is 128 refl refl)
    (All-cons IsSigned (pos 256) [] (side_is 256 refl refl) (All-nil IsSigned)))))))))

-- what the tables take as a side of an image is one that a texture may have
image_side_is : (side : ℤ) → is_image_side side ≡ true → IsSide (side_of side)
unfolding is_image_side
image_side_is side known = All-contains IsSigned image_sides side are_sides (size_among-contains image_sides side known)

-- where no error is found, TexImage2D has such sides; section 3.7.1
pub image_has_sides : (tracked : Tracked) (target : ℕ) (level internalformat width height border : ℤ) (format kind pixels : ℕ)
    → fault_of tracked (TexImage2D target level internalformat width height border format kind pixels) ≡ None → IsSide (side_of width) × IsSide (side_of height)
unfolding fault_of image_fault
image_has_sides tracked target level internalformat width height border format kind pixels none =
    let known = first_passed (eqb target 0x0DE1) _ _ none in
    let has_format = first_passed (is_among texture_formats format) _ _ (known.1) in
    let has_kind = first_passed (eqb kind 0x1401) _ _ (has_format.1) in
    let has_level = first_passed (int_eq level (pos 0)) _ _ (has_kind.1) in
    let internal = first_passed (is_internal_format internalformat) _ _ (has_level.1) in
    let wide = first_passed (is_image_side width) _ _ (internal.1) in
    let high = first_passed (is_image_side height) _ _ (wide.1) in
    (image_side_is width (wide.0), image_side_is height (high.0))

taken : (pname : ℕ) (param : ℤ) → size_is_among (values_of_parameter pname) param ≡ true → IsParameter pname param
unfolding size_is_among values_of_parameter values_taken
taken pname param known = known

-- where no error is found, TexParameteri has a parameter that takes the value; section 3.7.4
pub parameter_is : (tracked : Tracked) (target pname : ℕ) (param : ℤ) → fault_of tracked (TexParameteri target pname param) ≡ None → IsParameter pname param
unfolding fault_of parameter_fault
parameter_is tracked target pname param none =
    let known = first_passed (eqb target 0x0DE1) _ _ none in
    let named = first_passed (is_among texture_parameters pname) _ _ (known.1) in
    let value = first_passed (size_is_among (values_of_parameter pname) param) _ _ (named.1) in
    taken pname param (value.0)

-- an event that is an image or a part of one is no other
pub image_is_no_other : (ask : Ask) → is_image ask ≡ true → ((name : ℕ) (format : Format) (width height pitch source : ℕ) → ask ≢ asks.Image name format width height pitch source)
    → ((name : ℕ) (format : Format) (x y width height pitch source : ℕ) → ask ≢ asks.ImagePart name format x y width height pitch source) → ⊥
image_is_no_other (asks.Image name format width height pitch source) is image part = image name format width height pitch source refl
image_is_no_other (asks.ImagePart name format x y width height pitch source) is image part = part name format x y width height pitch source refl
image_is_no_other _ is image part = absurd (true≢false (sym is))

-- so many rows of so many texels have the bytes of their rectangle
pub rows_are_whole : (format : Format) (width height : ℕ) (bytes : List ℕ) → length bytes ≡ height * (width * size_of format) → HasItsBytes (rectangle_of format width height bytes)
rows_are_whole format width height bytes many =
    record { count = many ∙ sym (mul_assoc height width (size_of format)) ∙ ap (λ (texels : ℕ). texels * size_of format) (mul_comm height width) }

-- an image of sides that there are, with so many rows of so many texels, is one that a texture may have
pub image_is_whole : (format : Format) (width height : ℕ) (bytes : List ℕ) → IsSide width × IsSide height → length bytes ≡ height * (width * size_of format) → IsTexture (rectangle_of format width height bytes)
image_is_whole format width height bytes sides many = record { wide = sides.0; high = sides.1; whole = rows_are_whole format width height bytes many }
