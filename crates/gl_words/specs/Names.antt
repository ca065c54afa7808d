-- The names that a script may write for numbers: those of OpenGL ES 1.1.12, with its numbers. The choice of names is own.
use Rattle.std.specs.Prelude.{◌≡◌, ℕ, Bool, true, false, List, [], ◌∷◌, Option, Some, None, length, codes, ◌==◌}
use Rattle.std.specs.Borrow.{Bor}
use Rattle.std.specs.List.{list_all}
use Rattle.gl_words.specs.Lookup.{seen_names, found_in, of_length}
use Rattle.gl_words.specs.declared.names.Name.{Name}

-- each name with its number; tables 6.4 to 6.20 and the header, the choice own
unfoldable pub names : List (List ℕ × ℕ)
names =
    -- modes
    (codes "POINTS", 0) ∷
    (codes "LINES", 1) ∷
    (codes "LINE_LOOP", 2) ∷
    (codes "LINE_STRIP", 3) ∷
    (codes "TRIANGLES", 4) ∷
    (codes "TRIANGLE_STRIP", 5) ∷
    (codes "TRIANGLE_FAN", 6) ∷
    -- clear bits
    (codes "DEPTH_BUFFER_BIT", 0x0100) ∷
    (codes "STENCIL_BUFFER_BIT", 0x0400) ∷
    (codes "COLOR_BUFFER_BIT", 0x4000) ∷
    -- comparisons
    (codes "NEVER", 0x0200) ∷
    (codes "LESS", 0x0201) ∷
    (codes "EQUAL", 0x0202) ∷
    (codes "LEQUAL", 0x0203) ∷
    (codes "GREATER", 0x0204) ∷
    (codes "NOTEQUAL", 0x0205) ∷
    (codes "GEQUAL", 0x0206) ∷
    (codes "ALWAYS", 0x0207) ∷
    -- factors
    (codes "ZERO", 0) ∷
    (codes "ONE", 1) ∷
    (codes "SRC_COLOR", 0x0300) ∷
    (codes "ONE_MINUS_SRC_COLOR", 0x0301) ∷
    (codes "SRC_ALPHA", 0x0302) ∷
    (codes "ONE_MINUS_SRC_ALPHA", 0x0303) ∷
    (codes "DST_ALPHA", 0x0304) ∷
    (codes "ONE_MINUS_DST_ALPHA", 0x0305) ∷
    (codes "DST_COLOR", 0x0306) ∷
    (codes "ONE_MINUS_DST_COLOR", 0x0307) ∷
    (codes "SRC_ALPHA_SATURATE", 0x0308) ∷
    -- faces
    (codes "FRONT", 0x0404) ∷
    (codes "BACK", 0x0405) ∷
    (codes "FRONT_AND_BACK", 0x0408) ∷
    (codes "CW", 0x0900) ∷
    (codes "CCW", 0x0901) ∷
    -- capabilities
    (codes "CULL_FACE", 0x0B44) ∷
    (codes "DEPTH_TEST", 0x0B71) ∷
    (codes "ALPHA_TEST", 0x0BC0) ∷
    (codes "DITHER", 0x0BD0) ∷
    (codes "BLEND", 0x0BE2) ∷
    (codes "SCISSOR_TEST", 0x0C11) ∷
    (codes "TEXTURE_2D", 0x0DE1) ∷
    -- types
    (codes "BYTE", 0x1400) ∷
    (codes "UNSIGNED_BYTE", 0x1401) ∷
    (codes "SHORT", 0x1402) ∷
    (codes "UNSIGNED_SHORT", 0x1403) ∷
    (codes "FIXED", 0x140C) ∷
    -- matrices
    (codes "MODELVIEW", 0x1700) ∷
    (codes "PROJECTION", 0x1701) ∷
    (codes "TEXTURE", 0x1702) ∷
    -- formats
    (codes "ALPHA", 0x1906) ∷
    (codes "RGB", 0x1907) ∷
    (codes "RGBA", 0x1908) ∷
    (codes "LUMINANCE", 0x1909) ∷
    (codes "LUMINANCE_ALPHA", 0x190A) ∷
    -- shading
    (codes "FLAT", 0x1D00) ∷
    (codes "SMOOTH", 0x1D01) ∷
    -- environment
    (codes "TEXTURE_ENV", 0x2300) ∷
    (codes "TEXTURE_ENV_MODE", 0x2200) ∷
    (codes "TEXTURE_ENV_COLOR", 0x2201) ∷
    (codes "ADD", 0x0104) ∷
    (codes "REPLACE", 0x1E01) ∷
    (codes "MODULATE", 0x2100) ∷
    (codes "DECAL", 0x2101) ∷
    -- parameters
    (codes "TEXTURE_MAG_FILTER", 0x2800) ∷
    (codes "TEXTURE_MIN_FILTER", 0x2801) ∷
    (codes "TEXTURE_WRAP_S", 0x2802) ∷
    (codes "TEXTURE_WRAP_T", 0x2803) ∷
    (codes "NEAREST", 0x2600) ∷
    (codes "LINEAR", 0x2601) ∷
    (codes "NEAREST_MIPMAP_NEAREST", 0x2700) ∷
    (codes "LINEAR_MIPMAP_NEAREST", 0x2701) ∷
    (codes "NEAREST_MIPMAP_LINEAR", 0x2702) ∷
    (codes "LINEAR_MIPMAP_LINEAR", 0x2703) ∷
    (codes "REPEAT", 0x2901) ∷
    (codes "CLAMP_TO_EDGE", 0x812F) ∷
    -- units
    (codes "TEXTURE0", 0x84C0) ∷
    (codes "TEXTURE1", 0x84C1) ∷
    -- arrays
    (codes "VERTEX_ARRAY", 0x8074) ∷
    (codes "NORMAL_ARRAY", 0x8075) ∷
    (codes "COLOR_ARRAY", 0x8076) ∷
    (codes "TEXTURE_COORD_ARRAY", 0x8078) ∷
    -- buffers
    (codes "ARRAY_BUFFER", 0x8892) ∷
    (codes "ELEMENT_ARRAY_BUFFER", 0x8893) ∷
    (codes "STATIC_DRAW", 0x88E4) ∷
    (codes "DYNAMIC_DRAW", 0x88E8) ∷
    -- got by GetIntegerv
    (codes "MATRIX_MODE", 0x0BA0) ∷
    (codes "MODELVIEW_STACK_DEPTH", 0x0BA3) ∷
    (codes "PROJECTION_STACK_DEPTH", 0x0BA4) ∷
    (codes "TEXTURE_STACK_DEPTH", 0x0BA5) ∷
    (codes "UNPACK_ALIGNMENT", 0x0CF5) ∷
    (codes "PACK_ALIGNMENT", 0x0D05) ∷
    (codes "ACTIVE_TEXTURE", 0x84E0) ∷
    (codes "CLIENT_ACTIVE_TEXTURE", 0x84E1) ∷
    (codes "VERTEX_ARRAY_SIZE", 0x807A) ∷
    (codes "VERTEX_ARRAY_TYPE", 0x807B) ∷
    (codes "VERTEX_ARRAY_STRIDE", 0x807C) ∷
    (codes "NORMAL_ARRAY_TYPE", 0x807E) ∷
    (codes "NORMAL_ARRAY_STRIDE", 0x807F) ∷
    (codes "COLOR_ARRAY_SIZE", 0x8081) ∷
    (codes "COLOR_ARRAY_TYPE", 0x8082) ∷
    (codes "COLOR_ARRAY_STRIDE", 0x8083) ∷
    (codes "TEXTURE_COORD_ARRAY_SIZE", 0x8088) ∷
    (codes "TEXTURE_COORD_ARRAY_TYPE", 0x8089) ∷
    (codes "TEXTURE_COORD_ARRAY_STRIDE", 0x808A) ∷
    (codes "ARRAY_BUFFER_BINDING", 0x8894) ∷
    (codes "ELEMENT_ARRAY_BUFFER_BINDING", 0x8895) ∷
    (codes "VERTEX_ARRAY_BUFFER_BINDING", 0x8896) ∷
    (codes "NORMAL_ARRAY_BUFFER_BINDING", 0x8897) ∷
    (codes "COLOR_ARRAY_BUFFER_BINDING", 0x8898) ∷
    (codes "TEXTURE_COORD_ARRAY_BUFFER_BINDING", 0x889A) ∷
    (codes "CULL_FACE_MODE", 0x0B45) ∷
    (codes "FRONT_FACE", 0x0B46) ∷
    (codes "SHADE_MODEL", 0x0B54) ∷
    (codes "DEPTH_FUNC", 0x0B74) ∷
    (codes "VIEWPORT", 0x0BA2) ∷
    (codes "ALPHA_TEST_FUNC", 0x0BC1) ∷
    (codes "BLEND_DST", 0x0BE0) ∷
    (codes "BLEND_SRC", 0x0BE1) ∷
    (codes "SCISSOR_BOX", 0x0C10) ∷
    (codes "MAX_TEXTURE_SIZE", 0x0D33) ∷
    (codes "TEXTURE_BINDING_2D", 0x8069) ∷
    (codes "MAX_TEXTURE_UNITS", 0x84E2) ∷
    -- got by GetFixedv
    (codes "CURRENT_COLOR", 0x0B00) ∷
    (codes "DEPTH_CLEAR_VALUE", 0x0B73) ∷
    (codes "MODELVIEW_MATRIX", 0x0BA6) ∷
    (codes "PROJECTION_MATRIX", 0x0BA7) ∷
    (codes "TEXTURE_MATRIX", 0x0BA8) ∷
    (codes "COLOR_CLEAR_VALUE", 0x0C22) ∷
    -- got by GetPointerv
    (codes "VERTEX_ARRAY_POINTER", 0x808E) ∷
    (codes "NORMAL_ARRAY_POINTER", 0x808F) ∷
    (codes "COLOR_ARRAY_POINTER", 0x8090) ∷
    (codes "TEXTURE_COORD_ARRAY_POINTER", 0x8092) ∷
    []

-- the number beside a name; own
abbrev pub number_named : List ℕ → Option ℕ
number_named name = found_in names name

-- whether a number is there, and is this one; own
abbrev pub finds : Option ℕ → ℕ → Bool
finds None number = false
finds (Some other) number = other == number

-- the names by their lengths: each stands with its number in the group of its length, and nothing else does; own
pub record AreGroups (groups : List (Bor (List Name))) : Type 0 where
  pub each : list_all (λ row. finds (found_in (seen_names (of_length groups (length row.0))) row.0) row.1) names ≡ true
  pub only : list_all (λ group. list_all (λ row. finds (found_in names row.0) row.1) (seen_names group.now)) groups ≡ true
