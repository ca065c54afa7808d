-- The enumerants that calls on buffers and textures, on state which isn't tracked, and draws accept: those of OpenGL ES 1.1.12. What calls set with them isn't told here.
use Rattle.std.specs.Prelude.{ℕ, ◌==◌, ℤ, pos, if◌then◌else◌, List, [], ◌∷◌}

-- the comparisons: NEVER, LESS, EQUAL, LEQUAL, GREATER, NOTEQUAL, GEQUAL and ALWAYS; sections 4.1.4 and 4.1.6
abbrev pub comparisons : List ℕ
comparisons = 0x0200 ∷ 0x0201 ∷ 0x0202 ∷ 0x0203 ∷ 0x0204 ∷ 0x0205 ∷ 0x0206 ∷ 0x0207 ∷ []

-- the factors of what is blended in: ZERO, ONE, SRC_ALPHA, ONE_MINUS_SRC_ALPHA, DST_ALPHA, ONE_MINUS_DST_ALPHA, DST_COLOR, ONE_MINUS_DST_COLOR and SRC_ALPHA_SATURATE; section 4.1.7
abbrev pub source_factors : List ℕ
source_factors = 0 ∷ 1 ∷ 0x0302 ∷ 0x0303 ∷ 0x0304 ∷ 0x0305 ∷ 0x0306 ∷ 0x0307 ∷ 0x0308 ∷ []

-- the factors of what was there: ZERO, ONE, SRC_COLOR, ONE_MINUS_SRC_COLOR, SRC_ALPHA, ONE_MINUS_SRC_ALPHA, DST_ALPHA and ONE_MINUS_DST_ALPHA; section 4.1.7
abbrev pub dest_factors : List ℕ
dest_factors = 0 ∷ 1 ∷ 0x0300 ∷ 0x0301 ∷ 0x0302 ∷ 0x0303 ∷ 0x0304 ∷ 0x0305 ∷ []

-- the faces: FRONT, BACK and FRONT_AND_BACK; section 3.5.1
abbrev pub faces : List ℕ
faces = 0x0404 ∷ 0x0405 ∷ 0x0408 ∷ []

-- the windings: CW and CCW; section 2.12.1
abbrev pub windings : List ℕ
windings = 0x0900 ∷ 0x0901 ∷ []

-- the shadings: FLAT and SMOOTH; section 2.12.7
abbrev pub shadings : List ℕ
shadings = 0x1D00 ∷ 0x1D01 ∷ []

-- the modes of draws: POINTS, LINES, LINE_LOOP, LINE_STRIP, TRIANGLES, TRIANGLE_STRIP and TRIANGLE_FAN; section 2.6.1
abbrev pub modes : List ℕ
modes = 0 ∷ 1 ∷ 2 ∷ 3 ∷ 4 ∷ 5 ∷ 6 ∷ []

-- the targets of buffers: ARRAY_BUFFER and ELEMENT_ARRAY_BUFFER; section 2.9
abbrev pub buffer_targets : List ℕ
buffer_targets = 0x8892 ∷ 0x8893 ∷ []

-- the usages of buffers: STATIC_DRAW and DYNAMIC_DRAW; section 2.9
abbrev pub usages : List ℕ
usages = 0x88E4 ∷ 0x88E8 ∷ []

-- the types of indices: UNSIGNED_BYTE and UNSIGNED_SHORT; section 2.8
abbrev pub index_types : List ℕ
index_types = 0x1401 ∷ 0x1403 ∷ []

-- the formats of textures: ALPHA, RGB, RGBA, LUMINANCE and LUMINANCE_ALPHA; section 3.7.1
abbrev pub texture_formats : List ℕ
texture_formats = 0x1906 ∷ 0x1907 ∷ 0x1908 ∷ 0x1909 ∷ 0x190A ∷ []

-- the modes of texture environments: ADD, BLEND, REPLACE, MODULATE and DECAL; section 3.7.12
abbrev pub environment_modes : List ℤ
environment_modes = pos 0x0104 ∷ pos 0x0BE2 ∷ pos 0x1E01 ∷ pos 0x2100 ∷ pos 0x2101 ∷ []

-- the parameters of textures: TEXTURE_MAG_FILTER, TEXTURE_MIN_FILTER, TEXTURE_WRAP_S and TEXTURE_WRAP_T; section 3.7.4
abbrev pub texture_parameters : List ℕ
texture_parameters = 0x2800 ∷ 0x2801 ∷ 0x2802 ∷ 0x2803 ∷ []

-- the filters where texels are magnified: NEAREST and LINEAR; section 3.7.8
abbrev pub magnifications : List ℤ
magnifications = pos 0x2600 ∷ pos 0x2601 ∷ []

-- the filters where they are minified: these, and the four of mipmaps; section 3.7.7
abbrev pub minifications : List ℤ
minifications = pos 0x2600 ∷ pos 0x2601 ∷ pos 0x2700 ∷ pos 0x2701 ∷ pos 0x2702 ∷ pos 0x2703 ∷ []

-- how coordinates wrap: REPEAT and CLAMP_TO_EDGE; section 3.7.6
abbrev pub wraps : List ℤ
wraps = pos 0x2901 ∷ pos 0x812F ∷ []

-- the values that a parameter of textures accepts, and none of another name; section 3.7.4
unfoldable pub values_of_parameter : ℕ → List ℤ
values_of_parameter pname =
    if pname == 0x2800 then magnifications else (
    if pname == 0x2801 then minifications else (
    if pname == 0x2802 then wraps else (
    if pname == 0x2803 then wraps else [])))
