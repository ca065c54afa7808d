-- Parts that are put into a texture: run by run in bytes, and then texel by texel.
use Rattle.std.proofs.Common.{◌≡◌, ℕ, ◌+◌, ◌-◌, ◌*◌, ◌/◌, ◌%◌, ◌<◌, ◌≤◌, Bool, true, false, ◌&&◌, cond, List, length, get_or, refl, sym, ap, ◌∙◌, ◌⊎◌, inl, inr, ltb, leb, arith}
use Rattle.std.proofs.lemmas.Bool.{and_cases, and_from, and_left, and_parts, and_right, cases_Bool, cases_lt, cases_order, le-leb, le-ltb, leb-false, leb-true, lt-leb, lt-ltb, ltb-false, ltb-true}
use Rattle.std.proofs.lemmas.List.FromFn.{fill_by_all, get_or-map-range_with_len, length-map-range_with_len}
use Rattle.std.proofs.lemmas.Nat.{div-add-mod', div-mul-add, mod-mul-add, mul-add-lt, mul-le, row_fits}
use Rattle.texture_units.specs.declared.format.Format.{Format}
use Rattle.texture_units.specs.declared.format.Format.TheVariants.{Alpha, Luminance, LuminanceAlpha, Rgb, Rgba}
use Rattle.texture_units.specs.Format.{colour_at, size_of}
use Rattle.texture_units.specs.Texture.{HasItsBytes, TextureView, texel_at}
use Rattle.texture_units.specs.Part.{Block, FitsAt, TakesPart, block, block_of, byte_after, bytes_after, is_among, place_in_block, texel_after, with_part}

-- whether a number is among so many from a first one on
is_among-true : (first count number : ℕ) → first ≤ number → number < first + count → is_among first count number ≡ true
is_among-true first count number low high = and_from (leb first number) (ltb number (first + count)) (le-leb first number low) (lt-ltb number (first + count) high)

is_among-below : (first count number : ℕ) → number < first → is_among first count number ≡ false
is_among-below first count number low = and_left (leb first number) (ltb number (first + count)) (lt-leb first number low)

is_among-above : (first count number : ℕ) → first + count ≤ number → is_among first count number ≡ false
is_among-above first count number high = and_right (leb first number) (ltb number (first + count)) (le-ltb number (first + count) high)

-- the byte at a place whose row and byte of the row are known: inside the rectangle, and outside it
module _ (block : Block) (part old : List ℕ) (at row byte : ℕ) (row_is : at / block.stride ≡ row) (byte_is : at % block.stride ≡ byte) where
  byte_inside : block.bottom ≤ row → row < block.bottom + block.rows → block.first ≤ byte → byte < block.first + block.run
      → byte_after block part old at ≡ get_or part ((row - block.bottom) * block.run + (byte - block.first)) 0
  unfolding byte_after
  byte_inside low high from before =
      let rows : is_among block.bottom block.rows (at / block.stride) ≡ true =
      ap (is_among block.bottom block.rows) row_is ∙ is_among-true block.bottom block.rows row low high in
      let bytes : is_among block.first block.run (at % block.stride) ≡ true =
      ap (is_among block.first block.run) byte_is ∙ is_among-true block.first block.run byte from before in
      ap (λ (test : Bool). cond test (get_or part (place_in_block block at) 0) (get_or old at 0)) (and_from (is_among block.bottom block.rows (at / block.stride)) (is_among block.first block.run (at % block.stride)) rows bytes)
      ∙ ap (λ (n : ℕ). get_or part ((n - block.bottom) * block.run + (at % block.stride - block.first)) 0) row_is
      ∙ ap (λ (n : ℕ). get_or part ((row - block.bottom) * block.run + (n - block.first)) 0) byte_is

  byte_other_row : is_among block.bottom block.rows row ≡ false → byte_after block part old at ≡ get_or old at 0
  unfolding byte_after
  byte_other_row other =
      ap (λ (test : Bool). cond test (get_or part (place_in_block block at) 0) (get_or old at 0))
      (and_left (is_among block.bottom block.rows (at / block.stride)) (is_among block.first block.run (at % block.stride)) (ap (is_among block.bottom block.rows) row_is ∙ other))

  byte_beside : is_among block.first block.run byte ≡ false → byte_after block part old at ≡ get_or old at 0
  unfolding byte_after
  byte_beside other =
      ap (λ (test : Bool). cond test (get_or part (place_in_block block at) 0) (get_or old at 0))
      (and_right (is_among block.bottom block.rows (at / block.stride)) (is_among block.first block.run (at % block.stride)) (ap (is_among block.first block.run) byte_is ∙ other))

-- the row and the byte of a row of a place
row_of : (stride row byte at : ℕ) → at ≡ row * stride + byte → byte < stride → at / stride ≡ row
row_of stride row byte at is h = ap (λ (n : ℕ). n / stride) is ∙ div-mul-add row stride byte h

byte_of : (stride row byte at : ℕ) → at ≡ row * stride + byte → byte < stride → at % stride ≡ byte
byte_of stride row byte at is h = ap (λ (n : ℕ). n % stride) is ∙ mod-mul-add row stride byte h

-- before any row is put nothing has changed
pub byte_after-none : (stride first run bottom : ℕ) (part old : List ℕ) (at : ℕ) → get_or old at 0 ≡ byte_after (block stride first run bottom 0) part old at
byte_after-none stride first run bottom part old at =
    let row = at / stride in
    let none : is_among bottom 0 row ≡ false =
    elim (cases_lt row bottom) [ inl low ↦ is_among-below bottom 0 row low | inr high ↦ is_among-above bottom 0 row (omega arith) ] in
    sym (byte_other_row (block stride first run bottom 0) part old at row (at % stride) refl refl none)

-- a place that isn't in the next row of the rectangle is as it was
module _ (stride first run bottom rows : ℕ) (part old : List ℕ) (at : ℕ) where
  byte_after-kept : (at / stride ≡ bottom + rows → first ≤ at % stride → at % stride < first + run → ⊥)
      → byte_after (block stride first run bottom rows) part old at ≡ byte_after (block stride first run bottom (rows + 1)) part old at
  byte_after-kept other =
      let row = at / stride in
      let byte = at % stride in
      let now = block stride first run bottom rows in
      let later = block stride first run bottom (rows + 1) in
      elim (cases_Bool (is_among first run byte)) [
        | inr beside ↦ byte_beside now part old at row byte refl refl beside ∙ sym (byte_beside later part old at row byte refl refl beside)
        | inl among ↦
            let parts = and_parts (leb first byte) (ltb byte (first + run)) among in
            let from = leb-true first byte parts.0 in
            let before = ltb-true byte (first + run) parts.1 in
            elim (cases_lt row bottom) [
              | inl low ↦ byte_other_row now part old at row byte refl refl (is_among-below bottom rows row low)
                  ∙ sym (byte_other_row later part old at row byte refl refl (is_among-below bottom (rows + 1) row low))
              | inr up ↦ elim (cases_order row (bottom + rows)) [
                | inl same ↦ absurd (other same from before)
                | inr differs ↦ elim differs [
                  | inl low ↦ byte_inside now part old at row byte refl refl up low from before
                      ∙ sym (byte_inside later part old at row byte refl refl up (omega arith) from before)
                  | inr high ↦ byte_other_row now part old at row byte refl refl (is_among-above bottom rows row (omega arith))
                      ∙ sym (byte_other_row later part old at row byte refl refl (is_among-above bottom (rows + 1) row (omega arith)))
                ]
              ]
            ]
      ]

-- one row more is put
pub record PutsRow (old new part : List ℕ) (to run from : ℕ) : Type 0 where
  pub before : (at : ℕ) → at < to → get_or new at 0 ≡ get_or old at 0
  pub inside : (k : ℕ) → k < run → get_or new (to + k) 0 ≡ get_or part (from + k) 0
  pub after : (at : ℕ) → to + run ≤ at → get_or new at 0 ≡ get_or old at 0

module _ (stride first run bottom rows : ℕ) (part old now new : List ℕ) (some : 1 ≤ stride) (wide : first + run ≤ stride)
    (puts : PutsRow now new part ((bottom + rows) * stride + first) run (rows * run))
    (so_far : (at : ℕ) → get_or now at 0 ≡ byte_after (block stride first run bottom rows) part old at) (at : ℕ) where
  kept : (at / stride ≡ bottom + rows → first ≤ at % stride → at % stride < first + run → ⊥) → get_or new at 0 ≡ get_or now at 0
      → get_or new at 0 ≡ byte_after (block stride first run bottom (rows + 1)) part old at
  kept other same = same ∙ so_far at ∙ byte_after-kept stride first run bottom rows part old at other

  -- where the place would stand, were it in that row
  placed : at / stride ≡ bottom + rows → at ≡ (bottom + rows) * stride + at % stride
  placed is = sym (div-add-mod' at stride) ∙ ap (λ (n : ℕ). n * stride + at % stride) is

  written : (k : ℕ) → at ≡ (bottom + rows) * stride + first + k → k < run → get_or new at 0 ≡ byte_after (block stride first run bottom (rows + 1)) part old at
  written k is h =
      let place : at ≡ (bottom + rows) * stride + (first + k) = omega arith in
      let in_row : first + k < stride = omega arith in
      let index : (bottom + rows - bottom) * run + (first + k - first) ≡ rows * run + k =
      ap (λ (n : ℕ). n * run + (first + k - first)) (omega arith) ∙ ap (λ (n : ℕ). rows * run + n) (omega arith) in
      ap (λ (n : ℕ). get_or new n 0) is ∙ puts.inside k h ∙ ap (λ (n : ℕ). get_or part n 0) (sym index)
      ∙ sym (byte_inside (block stride first run bottom (rows + 1)) part old at (bottom + rows) (first + k)
      (row_of stride (bottom + rows) (first + k) at place in_row) (byte_of stride (bottom + rows) (first + k) at place in_row)
      (omega arith) (omega arith) (omega arith) (omega arith))

  pub byte_after-more : get_or new at 0 ≡ byte_after (block stride first run bottom (rows + 1)) part old at
  byte_after-more =
      let to = (bottom + rows) * stride + first in
      elim (cases_lt at to) [
        | inl low ↦ kept (λ row from before. absurd (let there = placed row in omega arith)) (puts.before at low)
        | inr from_there ↦ elim (cases_lt at (to + run)) [
          | inl high ↦ written (at - to) (omega arith) (omega arith)
          | inr past ↦ kept (λ row from before. absurd (let there = placed row in omega arith)) (puts.after at past)
        ]
      ]

-- bytes that are known one by one
pub bytes_after-each : (b : Block) (part old new : List ℕ) → length new ≡ length old → ((at : ℕ) → get_or new at 0 ≡ byte_after b part old at) → new ≡ bytes_after b part old
unfolding bytes_after
bytes_after-each b part old new same each = fill_by_all (byte_after b part old) new (length old) 0 same (λ k h. each k)

pub length-bytes_after : (b : Block) (part old : List ℕ) → length (bytes_after b part old) ≡ length old
unfolding bytes_after
length-bytes_after b part old = length-map-range_with_len (byte_after b part old) 0 (length old)

get_or-bytes_after : (b : Block) (part old : List ℕ) (at : ℕ) → at < length old → get_or (bytes_after b part old) at 0 ≡ byte_after b part old at
unfolding bytes_after
get_or-bytes_after b part old at inside = get_or-map-range_with_len (byte_after b part old) 0 (length old) at at 0 inside (omega arith)

first_same : (xs ys : List ℕ) (a b : ℕ) → get_or xs (a + 0) 0 ≡ get_or ys (b + 0) 0 → get_or xs a 0 ≡ get_or ys b 0
first_same xs ys a b same =
    let no_more : a ≡ a + 0 = omega arith in
    let nor_there : b + 0 ≡ b = omega arith in
    ap (λ (n : ℕ). get_or xs n 0) no_more ∙ same ∙ ap (λ (n : ℕ). get_or ys n 0) nor_there

-- colours of the same bytes are the same
colour_at-same : (f : Format) (xs ys : List ℕ) (a b : ℕ) → ((j : ℕ) → j < size_of f → get_or xs (a + j) 0 ≡ get_or ys (b + j) 0) → colour_at f xs a ≡ colour_at f ys b
unfolding colour_at
colour_at-same Alpha xs ys a b same =
    let one : get_or xs a 0 ≡ get_or ys b 0 = first_same xs ys a b (same 0 (omega arith)) in
    cc
colour_at-same Luminance xs ys a b same =
    let one : get_or xs a 0 ≡ get_or ys b 0 = first_same xs ys a b (same 0 (omega arith)) in
    cc
colour_at-same LuminanceAlpha xs ys a b same =
    let one : get_or xs a 0 ≡ get_or ys b 0 = first_same xs ys a b (same 0 (omega arith)) in
    let two = same 1 (omega arith) in
    cc
colour_at-same Rgb xs ys a b same =
    let one : get_or xs a 0 ≡ get_or ys b 0 = first_same xs ys a b (same 0 (omega arith)) in
    let two = same 1 (omega arith) in
    let three = same 2 (omega arith) in
    cc
colour_at-same Rgba xs ys a b same =
    let one : get_or xs a 0 ≡ get_or ys b 0 = first_same xs ys a b (same 0 (omega arith)) in
    let two = same 1 (omega arith) in
    let three = same 2 (omega arith) in
    let four = same 3 (omega arith) in
    cc

-- a texel's bytes lie inside
pub texel_fits : (column row width height size : ℕ) → column < width → row < height → (row * width + column) * size + size ≤ width * height * size
texel_fits column row width height size h k =
    let place : row * width + column < width * height = mul-add-lt row width column height k h in
    row_fits (row * width + column) size (width * height) size place (omega arith)

-- a byte of a texel, by its row and its byte in that row
texel_place : (row width column size j : ℕ) → (row * width + column) * size + j ≡ row * (width * size) + (column * size + j)
texel_place row width column size j = omega arith

in_stride : (width column size j : ℕ) → column < width → j < size → column * size + j < width * size
in_stride width column size j h k = let below = mul-add-lt column size j width h k in omega arith

-- and by its place in a rectangle
index_in_part : (x column c r run size j : ℕ) → column ≡ x + c → r * (run * size) + (column * size + j - x * size) ≡ (r * run + c) * size + j
index_in_part x column c r run size j is = let times = ap (λ (n : ℕ). n * size) is in omega arith

-- a rectangle of texels that replaces those from column x and row y on of a texture
module _ (x y column row width run rows size j : ℕ) (part old : List ℕ) (in_width : column < width) (in_texel : j < size) where
  texel_byte_row : ((row * width + column) * size + j) / (width * size) ≡ row
  texel_byte_row = row_of (width * size) row (column * size + j) _ (texel_place row width column size j) (in_stride width column size j in_width in_texel)

  texel_byte : ((row * width + column) * size + j) % (width * size) ≡ column * size + j
  texel_byte = byte_of (width * size) row (column * size + j) _ (texel_place row width column size j) (in_stride width column size j in_width in_texel)

  texel_inside : x ≤ column → column < x + run → y ≤ row → row < y + rows
      → byte_after (block (width * size) (x * size) (run * size) y rows) part old ((row * width + column) * size + j)
      ≡ get_or part (((row - y) * run + (column - x)) * size + j) 0
  texel_inside left right low high =
      let from = mul-le x size column size left (omega arith) in
      let until : (column + 1) * size ≤ (x + run) * size = mul-le (column + 1) size (x + run) size (omega arith) (omega arith) in
      byte_inside (block (width * size) (x * size) (run * size) y rows) part old ((row * width + column) * size + j) row (column * size + j) texel_byte_row texel_byte
      low high (omega arith) (omega arith)
      ∙ ap (λ (n : ℕ). get_or part n 0) (index_in_part x column (column - x) (row - y) run size j (omega arith))

  texel_other_row : is_among y rows row ≡ false
      → byte_after (block (width * size) (x * size) (run * size) y rows) part old ((row * width + column) * size + j) ≡ get_or old ((row * width + column) * size + j) 0
  texel_other_row other =
      byte_other_row (block (width * size) (x * size) (run * size) y rows) part old ((row * width + column) * size + j) row (column * size + j) texel_byte_row texel_byte other

  texel_beside : (column < x) ⊎ (x + run ≤ column)
      → byte_after (block (width * size) (x * size) (run * size) y rows) part old ((row * width + column) * size + j) ≡ get_or old ((row * width + column) * size + j) 0
  texel_beside sides =
      let there = block (width * size) (x * size) (run * size) y rows in
      elim sides [
        | inl left ↦
            let until : (column + 1) * size ≤ x * size = mul-le (column + 1) size x size (omega arith) (omega arith) in
            byte_beside there part old ((row * width + column) * size + j) row (column * size + j) texel_byte_row texel_byte
            (is_among-below (x * size) (run * size) (column * size + j) (omega arith))
        | inr right ↦
            let from : (x + run) * size ≤ column * size = mul-le (x + run) size column size right (omega arith) in
            byte_beside there part old ((row * width + column) * size + j) row (column * size + j) texel_byte_row texel_byte
            (is_among-above (x * size) (run * size) (column * size + j) (omega arith))
      ]

-- a number that isn't among so many lies below them or above
sides_of : (first count number : ℕ) → is_among first count number ≡ false → (number < first) ⊎ (first + count ≤ number)
sides_of first count number other =
    elim (and_cases (leb first number) (ltb number (first + count)) other) [ inl low ↦ inl (leb-false first number low) | inr high ↦ inr (ltb-false number (first + count) high) ]

texel_byte_inside : (column row width height size j count : ℕ) → column < width → row < height → j < size → count ≡ width * height * size → (row * width + column) * size + j < count
texel_byte_inside column row width height size j count h k l is = let fits = texel_fits column row width height size h k in omega arith

-- a texture that has taken a part, texel by texel
pub with_part-takes : (x y : ℕ) (part old : TextureView) → FitsAt x y part old → HasItsBytes old → TakesPart x y part old (with_part x y part old)
unfolding with_part texel_at texel_after
with_part-takes x y part old fits whole = record {
  same_format = refl;
  same_width = refl;
  same_height = refl;
  texels = λ column row in_width in_height.
      let size = size_of old.format in
      let there = block_of x y part old in
      let first = (row * old.width + column) * size in
      let read = λ (j : ℕ) (h : j < size).
      get_or-bytes_after there part.bytes old.bytes (first + j) (texel_byte_inside column row old.width old.height size j (length old.bytes) in_width in_height h whole.count) in
      let chosen = λ (test : Bool). cond test (texel_at part (column - x) (row - y)) (texel_at old column row) in
      elim (cases_Bool (is_among x part.width column && is_among y part.height row)) [
        | inl inside ↦
            let across = and_parts (is_among x part.width column) (is_among y part.height row) inside in
            let columns = and_parts (leb x column) (ltb column (x + part.width)) across.0 in
            let rows = and_parts (leb y row) (ltb row (y + part.height)) across.1 in
            colour_at-same old.format (bytes_after there part.bytes old.bytes) part.bytes first (((row - y) * part.width + (column - x)) * size)
            (λ j h. read j h ∙ texel_inside x y column row old.width part.width part.height size j part.bytes old.bytes in_width h
            (leb-true x column columns.0) (ltb-true column (x + part.width) columns.1) (leb-true y row rows.0) (ltb-true row (y + part.height) rows.1))
            ∙ ap (λ (f : Format). colour_at f part.bytes (((row - y) * part.width + (column - x)) * size_of f)) (sym fits.same_format)
            ∙ sym (ap chosen inside)
        | inr outside ↦
            colour_at-same old.format (bytes_after there part.bytes old.bytes) old.bytes first first
            (λ j h. read j h ∙ elim (and_cases (is_among x part.width column) (is_among y part.height row) outside) [
              | inl beside ↦ texel_beside x y column row old.width part.width part.height size j part.bytes old.bytes in_width h (sides_of x part.width column beside)
              | inr other ↦ texel_other_row x y column row old.width part.width part.height size j part.bytes old.bytes in_width h other
            ])
            ∙ sym (ap chosen outside)
      ];
}

-- a texture with other bytes
abbrev pub with_bytes : TextureView → List ℕ → TextureView
with_bytes view bytes = record view { bytes = bytes }

-- where a part's rows stand among those of a texture
pub block_wide : (x run width size : ℕ) → x + run ≤ width → x * size + run * size ≤ width * size
block_wide x run width size h = let within = mul-le (x + run) size width size h (omega arith) in omega arith

pub block_high : (y rows height stride : ℕ) → y + rows ≤ height → (y + rows) * stride ≤ height * stride
block_high y rows height stride h = mul-le (y + rows) stride height stride h (omega arith)
