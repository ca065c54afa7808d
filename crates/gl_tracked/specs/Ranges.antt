-- What calls read of client memory: draws element by element, and matrices, names, bytes of buffers, images and colours; sections 2.8, 2.9, 2.10.2, 3.7.1, 3.7.2 and 3.7.12. Nothing is cut and nothing is joined here.
use Rattle.std.specs.Prelude.{ℕ, ◌*◌, ◌==◌, nat_le, nat_lt, ℤ, pos, Bool, not, ◌&&◌, if◌then◌else◌, List, [], ◌∷◌, ◌++◌, map}
use Rattle.std.specs.List.{filter, flat_map, list_any, range_with_len}
use Rattle.gl_memory.specs.Segment.{Segment}
use Rattle.gl_memory.specs.declared.piece.Piece.{Piece}
use Rattle.gl_tracked.specs.declared.tracked.ArrayState.{ArrayState}
use Rattle.gl_tracked.specs.declared.tracked.Tracked.{Tracked}
use Rattle.gl_tracked.specs.Count.{count_drawn, count_of}
use Rattle.gl_tracked.specs.Element.{arrays_in_order, element_at}
use Rattle.gl_tracked.specs.Images.{image_length, side_of, texel_size}
use Rattle.gl_tracked.specs.Indices.{index_bytes, indices_at}

-- whether draws read an array from client memory: it is enabled, and in no buffer; sections 2.8 and 2.9
unfoldable pub is_client : ArrayState → Bool
is_client array = array.enabled && (array.buffer == 0)

-- the arrays that draws read from client memory, in their order: none where that of vertices is disabled; sections 2.8 and 2.9, the last own
unfoldable pub arrays_read : Tracked → List ArrayState
arrays_read tracked = if tracked.vertex.enabled then filter is_client (arrays_in_order tracked) else []

-- the places of the elements that DrawArrays draws: so many from the first on, and none where the first or the count is below zero or the count above 65536, which are errors; section 2.8, the most own
unfoldable pub places_drawn : ℤ → ℤ → List ℕ
places_drawn (pos first) (pos count) = if nat_le count 65536 then range_with_len first count else []
places_drawn _ _ = []

-- what the elements at these places take of client memory, array after array, each element by itself; section 2.8
unfoldable pub ranges_at : Tracked → List ℕ → List Piece
ranges_at tracked places = flat_map (λ array. map (element_at array) places) (arrays_read tracked)

-- what DrawArrays reads of client memory; section 2.8
unfoldable pub ranges_of_draw : Tracked → ℤ → ℤ → List Piece
ranges_of_draw tracked first count = ranges_at tracked (places_drawn first count)

-- what LoadMatrixx and MultMatrixx read at a pointer: 16 numbers of four bytes; section 2.10.2
unfoldable pub range_of_matrix : ℕ → Piece
range_of_matrix pointer = record { start = pointer; len = 64 }

-- whether a draw takes its indices from client memory: the array of vertices is enabled, and no buffer is bound to ELEMENT_ARRAY_BUFFER; section 2.9, the first own
unfoldable pub takes_indices : Tracked → Bool
takes_indices tracked = tracked.vertex.enabled && (tracked.element_buffer == 0)

-- where so many indices of a type lie, from a place on; section 2.8
unfoldable pub range_of_indices : ℕ → ℕ → ℕ → Piece
range_of_indices kind place count = record { start = place; len = count * index_bytes kind }

-- what DrawElements reads of client memory where its indices lie there: the elements that they name, array after array, and then the indices; section 2.8
unfoldable pub ranges_of_elements : Tracked → ℤ → ℕ → ℕ → List Segment → List Piece
ranges_of_elements tracked count kind place memory =
    if takes_indices tracked
    then ranges_at tracked (indices_at memory kind place (count_drawn count)) ++ range_of_indices kind place (count_drawn count) ∷ []
    else []

-- whether a draw reads an array from client memory: the array of vertices is enabled, and one that is enabled lies in no buffer; sections 2.8 and 2.9, the first own
unfoldable pub reads_client : Tracked → Bool
reads_client tracked = tracked.vertex.enabled && list_any is_client (arrays_in_order tracked)

-- whether DrawElements may read any place of client memory: it draws something, its indices lie in a buffer, which tracked state doesn't know, and an array that it reads lies in client memory; sections 2.8 and 2.9
unfoldable pub elements_read_all : Tracked → ℤ → Bool
elements_read_all tracked count = nat_lt 0 (count_drawn count) && (not (tracked.element_buffer == 0) && reads_client tracked)

-- so many bytes from a place on; section 2.9
unfoldable pub range_of_bytes : ℕ → ℤ → Piece
range_of_bytes place size = record { start = place; len = count_of size }

-- what BufferData reads: so many bytes from a place on, and nothing from 0, which stands for zeros; section 2.9
unfoldable pub ranges_of_data : ℕ → ℤ → List Piece
ranges_of_data place size = if place == 0 then [] else range_of_bytes place size ∷ []

-- where so many names lie, of four bytes each, from a place on; section 2.9
unfoldable pub range_of_names : ℕ → ℤ → Piece
range_of_names place count = record { start = place; len = 4 * count_of count }

-- where the bytes of an image lie, by its format and its sides, from a place on: its rows at UNPACK_ALIGNMENT, the last one without padding; sections 3.6.1, 3.6.2, 3.7.1 and 3.7.2
unfoldable pub range_of_image : Tracked → ℕ → ℤ → ℤ → ℕ → Piece
range_of_image tracked format width height place =
    record { start = place; len = image_length (count_of tracked.unpack_alignment) (texel_size format) (side_of width) (side_of height) }

-- what TexImage2D reads: an image from a place on, and nothing from 0, which stands for zeros; section 3.7.1
unfoldable pub ranges_of_image : Tracked → ℕ → ℤ → ℤ → ℕ → List Piece
ranges_of_image tracked format width height place = if place == 0 then [] else range_of_image tracked format width height place ∷ []

-- what TexEnvxv reads at a pointer: 4 numbers of four bytes; section 3.7.12
unfoldable pub range_of_colour : ℕ → Piece
range_of_colour pointer = record { start = pointer; len = 16 }
