-- Colours of four bytes, red, green, blue and alpha: how a fragment's colour is blended with a cell's, and masks; sections 4.1.7 and 4.2.2.
use Rattle.std.specs.Prelude.{ℕ, ◌+◌, ◌-◌, ◌*◌, ◌/◌, ◌==◌, min, Bool, false, if◌then◌else◌, List, [], ◌∷◌, map, replicate, slice_index, slice_index_or}

-- the parts of a colour, by their places: red, green, blue, alpha; own
abbrev pub parts : List ℕ
parts = 0 ∷ 1 ∷ 2 ∷ 3 ∷ []

-- the alpha of a colour; section 4.1.4
abbrev pub alpha_of : List ℕ → ℕ
alpha_of colour = slice_index colour 3

-- the product of two bytes that stand for 0 to 1, as such a byte; own
unfoldable pub byte_product : ℕ → ℕ → ℕ
byte_product a b = (a * b + 127) / 255

-- what a byte lacks to 1; section 4.1.7
abbrev pub lack_of : ℕ → ℕ
lack_of byte = 255 - byte

-- a factor that is the same for each part; section 4.1.7
abbrev pub even : ℕ → List ℕ
even factor = replicate 4 factor

-- the factor of SRC_ALPHA_SATURATE: the lesser of the source's alpha and what the destination's alpha lacks, and 1 for alpha; section 4.1.7
unfoldable pub saturating : List ℕ → List ℕ → List ℕ
saturating source dest =
    let least = min (alpha_of source) (lack_of (alpha_of dest)) in
    least ∷ least ∷ least ∷ 255 ∷ []

-- the factor of a source for each part: ZERO, ONE, SRC_ALPHA, ONE_MINUS_SRC_ALPHA, DST_ALPHA, ONE_MINUS_DST_ALPHA, DST_COLOR, ONE_MINUS_DST_COLOR, and else SRC_ALPHA_SATURATE; section 4.1.7
unfoldable pub source_factors : ℕ → List ℕ → List ℕ → List ℕ
source_factors factor source dest =
    if factor == 0 then even 0 else (
    if factor == 1 then even 255 else (
    if factor == 0x302 then even (alpha_of source) else (
    if factor == 0x303 then even (lack_of (alpha_of source)) else (
    if factor == 0x304 then even (alpha_of dest) else (
    if factor == 0x305 then even (lack_of (alpha_of dest)) else (
    if factor == 0x306 then dest else (
    if factor == 0x307 then map lack_of dest else saturating source dest)))))))

-- the factor of a destination for each part: ZERO, ONE, SRC_COLOR, ONE_MINUS_SRC_COLOR, SRC_ALPHA, ONE_MINUS_SRC_ALPHA, DST_ALPHA, and else ONE_MINUS_DST_ALPHA; section 4.1.7
unfoldable pub dest_factors : ℕ → List ℕ → List ℕ → List ℕ
dest_factors factor source dest =
    if factor == 0 then even 0 else (
    if factor == 1 then even 255 else (
    if factor == 0x300 then source else (
    if factor == 0x301 then map lack_of source else (
    if factor == 0x302 then even (alpha_of source) else (
    if factor == 0x303 then even (lack_of (alpha_of source)) else (
    if factor == 0x304 then even (alpha_of dest) else even (lack_of (alpha_of dest))))))))

-- a part blended: the sum of the source and the destination, each times its factor, cut at 1; section 4.1.7
unfoldable pub part_blended : ℕ → ℕ → ℕ → ℕ → ℕ
part_blended source source_factor dest dest_factor = min 255 (byte_product source source_factor + byte_product dest dest_factor)

-- a part of a source blended with that of a destination, each times its factor among these; section 4.1.7
unfoldable pub blended_at : List ℕ → List ℕ → List ℕ → List ℕ → ℕ → ℕ
blended_at source factors dest factors_of_dest part =
    part_blended (slice_index source part) (slice_index factors part) (slice_index dest part) (slice_index factors_of_dest part)

-- a source blended with a destination by the factors of these names, part by part; section 4.1.7
unfoldable pub blended : ℕ → ℕ → List ℕ → List ℕ → List ℕ
blended source_factor dest_factor source dest =
    map (blended_at source (source_factors source_factor source dest) dest (dest_factors dest_factor source dest)) parts

-- a colour that is written over another one: the new part where its mask is on, else the old one; section 4.2.2
unfoldable pub masked : List Bool → List ℕ → List ℕ → List ℕ
masked mask new old = map (λ part. if slice_index_or mask part false then slice_index new part else slice_index old part) parts
