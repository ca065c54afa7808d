-- Images: how many bytes they have, and what a part of one that has no fault is.
use Rattle.std.proofs.Common.{◌≡◌, ℕ, ◌+◌, ◌*◌, ◌≤◌, Bool, true, false, cond, ◌&&◌, List, [], ◌∷◌, length, get_or, is_some, leb, refl, sym, ap, arith, true≢false}
use Rattle.std.specs.Prelude.{Option, Some, None}
use Rattle.std.specs.List.{sum_by}
use Rattle.std.proofs.lemmas.Bool.{leb-true}
use Rattle.std.proofs.lemmas.Nat.{mul-le}
use Rattle.gl_words.specs.declared.error.GlError.{GlError}
use Rattle.texture_units.specs.declared.format.Format.{Format}
use Rattle.texture_units.specs.declared.format.Format.TheVariants.{Alpha, Luminance, LuminanceAlpha, Rgb, Rgba}
use Rattle.texture_units.specs.Format.{size_of}
use Rattle.texture_units.specs.Texture.{TextureView, HasItsBytes, IsTexture}
use Rattle.texture_units.specs.Part.{FitsAt, block_of, with_part}
use Rattle.texture_units.proofs.Formats.{size_of-few}
use Rattle.texture_units.proofs.Parts.{length-bytes_after}
use Rattle.gl_objects.specs.declared.texture.TextureObject.{TextureObject}
use Rattle.gl_objects.specs.Image.{bytes_of, image_of, image_size, is_same_format, lies_inside, part_of_image_fault, with_image_part}

-- an image has 262144 bytes at most
pub image-few : (image : TextureView) → IsTexture image → length image.bytes ≤ 262144
image-few image is =
    let few = size_of-few image.format in
    let texels : image.width * image.height ≤ 256 * 256 = mul-le image.width image.height 256 256 is.wide.most is.high.most in
    let most : image.width * image.height * size_of image.format ≤ 65536 * 4 = mul-le (image.width * image.height) (size_of image.format) 65536 4 (omega arith) few in
    omega (arith, is.whole.count, most)

length-with_part : (x y : ℕ) (part image : TextureView) → length (with_part x y part image).bytes ≡ length image.bytes
unfolding with_part
length-with_part x y part image = length-bytes_after (block_of x y part image) part.bytes image.bytes

bytes_kept : (x y : ℕ) (part : TextureView) (sampled : TextureObject) (image : Option TextureView) → bytes_of (with_image_part x y part (record sampled { image = image })).image ≡ bytes_of image
bytes_kept x y part sampled None = refl
bytes_kept x y part sampled (Some image) = length-with_part x y part image

-- a part leaves as many bytes as there were
pub image_size-with_image_part : (x y : ℕ) (part : TextureView) (texture : TextureObject) → image_size (with_image_part x y part texture) ≡ image_size texture
image_size-with_image_part x y part texture = bytes_kept x y part texture texture.image

same_format : (one other : Format) → is_same_format one other ≡ true → other ≡ one
same_format Alpha Alpha h = refl
same_format Luminance Luminance h = refl
same_format LuminanceAlpha LuminanceAlpha h = refl
same_format Rgb Rgb h = refl
same_format Rgba Rgba h = refl
same_format Alpha Luminance h = absurd (true≢false (sym h))
same_format Alpha LuminanceAlpha h = absurd (true≢false (sym h))
same_format Alpha Rgb h = absurd (true≢false (sym h))
same_format Alpha Rgba h = absurd (true≢false (sym h))
same_format Luminance Alpha h = absurd (true≢false (sym h))
same_format Luminance LuminanceAlpha h = absurd (true≢false (sym h))
same_format Luminance Rgb h = absurd (true≢false (sym h))
same_format Luminance Rgba h = absurd (true≢false (sym h))
same_format LuminanceAlpha Alpha h = absurd (true≢false (sym h))
same_format LuminanceAlpha Luminance h = absurd (true≢false (sym h))
same_format LuminanceAlpha Rgb h = absurd (true≢false (sym h))
same_format LuminanceAlpha Rgba h = absurd (true≢false (sym h))
same_format Rgb Alpha h = absurd (true≢false (sym h))
same_format Rgb Luminance h = absurd (true≢false (sym h))
same_format Rgb LuminanceAlpha h = absurd (true≢false (sym h))
same_format Rgb Rgba h = absurd (true≢false (sym h))
same_format Rgba Alpha h = absurd (true≢false (sym h))
same_format Rgba Luminance h = absurd (true≢false (sym h))
same_format Rgba LuminanceAlpha h = absurd (true≢false (sym h))
same_format Rgba Rgb h = absurd (true≢false (sym h))

both_passed : (a b : Bool) (x y : GlError) → cond a (cond b None (Some x)) (Some y) ≡ None → (a ≡ true) × (b ≡ true)
both_passed true true x y h = (refl, refl)
both_passed true false x y h = absurd (true≢false (ap is_some h))
both_passed false b x y h = absurd (true≢false (ap is_some h))

and_both : (a b : Bool) → a && b ≡ true → (a ≡ true) × (b ≡ true)
and_both true b h = (refl, h)
and_both false b h = absurd (true≢false (sym h))

-- a part without a fault fits
pub part_fits : (image : TextureView) (x y : ℕ) (part : TextureView) → part_of_image_fault (Some image) x y part ≡ None → HasItsBytes part → FitsAt x y part image
part_fits image x y part free whole =
    let passed = both_passed (is_same_format image.format part.format) (lies_inside x y part image) _ _ free in
    let inside = and_both (leb (x + part.width) image.width) (leb (y + part.height) image.height) passed.1 in
    record {
      same_format = same_format image.format part.format passed.0;
      within_width = leb-true (x + part.width) image.width inside.0;
      within_height = leb-true (y + part.height) image.height inside.1;
      whole = whole;
    }

-- the sum over four
pub sum_by-four : {X : Type 0} (f : X → ℕ) (d : X) (xs : List X) → length xs ≡ 4 → sum_by f xs ≡ f (get_or xs 0 d) + f (get_or xs 1 d) + f (get_or xs 2 d) + f (get_or xs 3 d)
sum_by-four f d (a ∷ b ∷ c ∷ e ∷ []) h = omega arith
sum_by-four f d [] h = let no : ⊥ = omega (arith, h) in absurd no
sum_by-four f d (a ∷ []) h = let no : ⊥ = omega (arith, h) in absurd no
sum_by-four f d (a ∷ b ∷ []) h = let no : ⊥ = omega (arith, h) in absurd no
sum_by-four f d (a ∷ b ∷ c ∷ []) h = let no : ⊥ = omega (arith, h) in absurd no
sum_by-four f d (a ∷ b ∷ c ∷ e ∷ g ∷ xs) h = let no : ⊥ = omega (arith, h) in absurd no

-- where a part has no fault there is a texture
pub texture_there : (texture : Option TextureObject) (x y : ℕ) (part : TextureView) → part_of_image_fault (image_of texture) x y part ≡ None → is_some texture ≡ true
texture_there None x y part free = absurd (true≢false (ap is_some free))
texture_there (Some texture) x y part free = refl
