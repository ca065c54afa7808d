-- The part of a context's state that the layer keeps as well: which arrays there are, which units, modes, depths, bindings and alignments are set. The values are those of OpenGL ES 1.1.12; which of them stand here is own.
use Rattle.std.specs.Prelude.{ℕ, ◌≤◌, ℤ, pos, ◌≤ℤ◌, false, List, [], ◌∷◌, Contains}
use Rattle.gl_tracked.specs.declared.tracked.ArrayState.{ArrayState}
use Rattle.gl_tracked.specs.declared.tracked.Tracked.{Tracked}

-- an array at the start: disabled, four FIXED numbers an element, without stride, pointer and buffer; section 2.8, table 6.5
abbrev pub first_array : ArrayState
first_array = record { enabled = false; size = pos 4; kind = 0x140C; stride = pos 0; pointer = 0; buffer = 0 }

-- the tracked state at the start: the units are TEXTURE0, the mode is MODELVIEW, each stack holds one matrix, alignments are 4; sections 2.7 to 2.10 and 3.6.1
abbrev pub first_tracked : Tracked
first_tracked = record {
  vertex = first_array;
  normal = first_array;
  colour = first_array;
  texture = first_array ∷ first_array ∷ [];
  client_active = 0x84C0;
  active = 0x84C0;
  matrix_mode = 0x1700;
  depths = 1 ∷ 1 ∷ 1 ∷ 1 ∷ [];
  array_buffer = 0;
  element_buffer = 0;
  unpack_alignment = pos 4;
  pack_alignment = pos 4;
}

-- the types of arrays: BYTE, UNSIGNED_BYTE, SHORT and FIXED; table 2.4
abbrev pub array_types : List ℕ
array_types = 0x1400 ∷ 0x1401 ∷ 0x1402 ∷ 0x140C ∷ []

-- the types of vertices, normals and texture coordinates: BYTE, SHORT and FIXED; table 2.4, without floats
abbrev pub vertex_types : List ℕ
vertex_types = 0x1400 ∷ 0x1402 ∷ 0x140C ∷ []

-- the types of colours: UNSIGNED_BYTE and FIXED; table 2.4, without floats
abbrev pub colour_types : List ℕ
colour_types = 0x1401 ∷ 0x140C ∷ []

-- how many numbers a vertex or a texture coordinate may have; table 2.4
abbrev pub array_sizes : List ℤ
array_sizes = pos 2 ∷ pos 3 ∷ pos 4 ∷ []

-- the arrays: VERTEX_ARRAY, NORMAL_ARRAY, COLOR_ARRAY and TEXTURE_COORD_ARRAY; section 2.8
abbrev pub arrays : List ℕ
arrays = 0x8074 ∷ 0x8075 ∷ 0x8076 ∷ 0x8078 ∷ []

-- the capabilities: CULL_FACE, DEPTH_TEST, ALPHA_TEST, DITHER, BLEND, SCISSOR_TEST and TEXTURE_2D; the choice own
abbrev pub capabilities : List ℕ
capabilities = 0x0B44 ∷ 0x0B71 ∷ 0x0BC0 ∷ 0x0BD0 ∷ 0x0BE2 ∷ 0x0C11 ∷ 0x0DE1 ∷ []

-- the names of alignments: UNPACK_ALIGNMENT and PACK_ALIGNMENT; sections 3.6.1 and 4.3.1
abbrev pub alignment_names : List ℕ
alignment_names = 0x0CF5 ∷ 0x0D05 ∷ []

-- the units: TEXTURE0 and TEXTURE1; own, of at least two
abbrev pub units : List ℕ
units = 0x84C0 ∷ 0x84C1 ∷ []

-- the modes of matrices: MODELVIEW, PROJECTION and TEXTURE; section 2.10.2
abbrev pub matrix_modes : List ℕ
matrix_modes = 0x1700 ∷ 0x1701 ∷ 0x1702 ∷ []

-- the alignments of rows in bytes; section 3.6.1
abbrev pub alignments : List ℤ
alignments = pos 1 ∷ pos 2 ∷ pos 4 ∷ pos 8 ∷ []

-- the most matrices of the model-view stack, the projection stack and the texture stacks of units 0 and 1; own, of at least 16, 2 and 2
abbrev pub most_depths : List ℕ
most_depths = 16 ∷ 2 ∷ 2 ∷ 2 ∷ []

-- an array has 1 to 4 numbers an element, of a type that there is, and no stride below zero; section 2.8
pub record IsArray (array : ArrayState) : Type 0 where
  pub some : pos 1 ≤ℤ array.size
  pub few : array.size ≤ℤ pos 4
  pub typed : Contains array_types array.kind
  pub forward : pos 0 ≤ℤ array.stride

-- a stack holds a matrix at least, and no more than it may; section 2.10.2
pub record IsDepth (most depth : ℕ) : Type 0 where
  pub some : 1 ≤ depth
  pub few : depth ≤ most

-- the numbers of one list are as many as those of another, and each is a depth of at most the other's; own
abbrev pub AreDepths : List ℕ → List ℕ → Type 0
AreDepths [] [] = Unit {0}
AreDepths [] (depth ∷ depths) = ⊥
AreDepths (most ∷ mosts) [] = ⊥
AreDepths (most ∷ mosts) (depth ∷ depths) = IsDepth most depth × AreDepths mosts depths

-- two arrays, each of which is one; section 2.8
abbrev pub AreTwoArrays : List ArrayState → Type 0
AreTwoArrays (one ∷ other ∷ []) = IsArray one × IsArray other
AreTwoArrays _ = ⊥

-- tracked state whose values are such as calls may set; own
pub record IsSound (tracked : Tracked) : Type 0 where
  pub vertex : IsArray tracked.vertex
  pub normal : IsArray tracked.normal
  pub colour : IsArray tracked.colour
  pub texture : AreTwoArrays tracked.texture
  pub client_active : Contains units tracked.client_active
  pub active : Contains units tracked.active
  pub matrix_mode : Contains matrix_modes tracked.matrix_mode
  pub depths : AreDepths most_depths tracked.depths
  pub unpack_alignment : Contains alignments tracked.unpack_alignment
  pub pack_alignment : Contains alignments tracked.pack_alignment
