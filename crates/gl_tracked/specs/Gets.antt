-- Which names the gets take, and which number of tracked state stands beside a name; section 6.1. No other state stands here.
use Rattle.std.specs.Prelude.{ℕ, ℤ, pos, ◌==◌, Bool, if◌then◌else◌, List, [], ◌∷◌, Option, Some, None}
use Rattle.std.specs.Option.{option_or}
use Rattle.gl_tracked.specs.declared.tracked.Tracked.{Tracked}
use Rattle.gl_tracked.specs.Arrays.{current_coordinates}
use Rattle.gl_tracked.specs.Stack.{depth_at, texture_stack}

-- the number beside a name, in rows of names and numbers; own
abbrev pub number_beside : List (ℕ × ℤ) → ℕ → Option ℤ
number_beside [] name = None
number_beside ((known, number) ∷ rows) name = if name == known then Some number else number_beside rows name

-- the rows of modes, depths, alignments and units: MATRIX_MODE, the depths of the model-view, the projection and the active unit's texture stack, UNPACK_ALIGNMENT, PACK_ALIGNMENT, ACTIVE_TEXTURE, CLIENT_ACTIVE_TEXTURE; tables 6.7, 6.12 and 6.18
unfoldable pub mode_rows : Tracked → List (ℕ × ℤ)
mode_rows tracked =
    (0x0BA0, pos tracked.matrix_mode) ∷
    (0x0BA3, pos (depth_at tracked 0)) ∷
    (0x0BA4, pos (depth_at tracked 1)) ∷
    (0x0BA5, pos (depth_at tracked (texture_stack tracked))) ∷
    (0x0CF5, tracked.unpack_alignment) ∷
    (0x0D05, tracked.pack_alignment) ∷
    (0x84E0, pos tracked.active) ∷
    (0x84E1, pos tracked.client_active) ∷ []

-- the rows of sizes, types and strides of arrays: of VERTEX_ARRAY, NORMAL_ARRAY, COLOR_ARRAY and TEXTURE_COORD_ARRAY; table 6.5
unfoldable pub array_rows : Tracked → List (ℕ × ℤ)
array_rows tracked =
    (0x807A, tracked.vertex.size) ∷
    (0x807B, pos tracked.vertex.kind) ∷
    (0x807C, tracked.vertex.stride) ∷
    (0x807E, pos tracked.normal.kind) ∷
    (0x807F, tracked.normal.stride) ∷
    (0x8081, tracked.colour.size) ∷
    (0x8082, pos tracked.colour.kind) ∷
    (0x8083, tracked.colour.stride) ∷
    (0x8088, (current_coordinates tracked).size) ∷
    (0x8089, pos (current_coordinates tracked).kind) ∷
    (0x808A, (current_coordinates tracked).stride) ∷ []

-- the rows of bindings of buffers: ARRAY_BUFFER, ELEMENT_ARRAY_BUFFER, and those of the four arrays; table 6.6
unfoldable pub buffer_rows : Tracked → List (ℕ × ℤ)
buffer_rows tracked =
    (0x8894, pos tracked.array_buffer) ∷
    (0x8895, pos tracked.element_buffer) ∷
    (0x8896, pos tracked.vertex.buffer) ∷
    (0x8897, pos tracked.normal.buffer) ∷
    (0x8898, pos tracked.colour.buffer) ∷
    (0x889A, pos (current_coordinates tracked).buffer) ∷ []

-- the number of tracked state that GetIntegerv gives for a name, if it is one of tracked state; section 6.1.1
unfoldable pub integer_asked : Tracked → ℕ → Option ℤ
integer_asked tracked name =
    option_or (number_beside (mode_rows tracked) name) (option_or (number_beside (array_rows tracked) name) (number_beside (buffer_rows tracked) name))

-- the rows of pointers, as the places that were given: of VERTEX_ARRAY, NORMAL_ARRAY, COLOR_ARRAY and TEXTURE_COORD_ARRAY; table 6.5
unfoldable pub pointer_rows : Tracked → List (ℕ × ℤ)
pointer_rows tracked =
    (0x808E, pos tracked.vertex.pointer) ∷
    (0x808F, pos tracked.normal.pointer) ∷
    (0x8090, pos tracked.colour.pointer) ∷
    (0x8092, pos (current_coordinates tracked).pointer) ∷ []

-- the number that GetPointerv gives for a name, if it takes it; section 6.1.1
unfoldable pub pointer_asked : Tracked → ℕ → Option ℤ
pointer_asked tracked name = number_beside (pointer_rows tracked) name

-- 1 for what is so, 0 for what isn't; section 6.1.2
abbrev pub number_of_truth : Bool → ℤ
number_of_truth is_so = if is_so then pos 1 else pos 0

-- the rows of arrays, by whether they are enabled: VERTEX_ARRAY, NORMAL_ARRAY, COLOR_ARRAY and TEXTURE_COORD_ARRAY; table 6.5
unfoldable pub enabled_rows : Tracked → List (ℕ × ℤ)
enabled_rows tracked =
    (0x8074, number_of_truth tracked.vertex.enabled) ∷
    (0x8075, number_of_truth tracked.normal.enabled) ∷
    (0x8076, number_of_truth tracked.colour.enabled) ∷
    (0x8078, number_of_truth (current_coordinates tracked).enabled) ∷ []

-- the number that IsEnabled gives for a name, if it is one of an array; section 6.1.1
unfoldable pub enabled_asked : Tracked → ℕ → Option ℤ
enabled_asked tracked name = number_beside (enabled_rows tracked) name

-- the other names of GetIntegerv: CULL_FACE_MODE, FRONT_FACE, SHADE_MODEL, DEPTH_FUNC, VIEWPORT, ALPHA_TEST_FUNC, BLEND_DST, BLEND_SRC, SCISSOR_BOX, MAX_TEXTURE_SIZE, TEXTURE_BINDING_2D, MAX_TEXTURE_UNITS; the choice own
abbrev pub other_integers : List ℕ
other_integers = 0x0B45 ∷ 0x0B46 ∷ 0x0B54 ∷ 0x0B74 ∷ 0x0BA2 ∷ 0x0BC1 ∷ 0x0BE0 ∷ 0x0BE1 ∷ 0x0C10 ∷ 0x0D33 ∷ 0x8069 ∷ 0x84E2 ∷ []

-- the names of GetFixedv: CURRENT_COLOR, DEPTH_CLEAR_VALUE, MODELVIEW_MATRIX, PROJECTION_MATRIX, TEXTURE_MATRIX, COLOR_CLEAR_VALUE; the choice own
abbrev pub fixed_names : List ℕ
fixed_names = 0x0B00 ∷ 0x0B73 ∷ 0x0BA6 ∷ 0x0BA7 ∷ 0x0BA8 ∷ 0x0C22 ∷ []
