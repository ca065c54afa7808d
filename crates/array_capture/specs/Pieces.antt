-- The pieces of client memory that are captured for draws, matrices, names, bytes of buffers, images and colours, in their order; own. What is read stands in Ranges.antt.
use Rattle.std.specs.Prelude.{ℕ, ◌+◌, ◌-◌, min, max, nat_lt, ℤ, ◌&&◌, if◌then◌else◌, List, [], ◌∷◌, ◌++◌, length, map, Option, Some, None}
use Rattle.std.specs.List.{flat_map}
use Rattle.gl_memory.specs.declared.piece.Piece.{Piece}
use Rattle.gl_memory.specs.Segment.{Segment}
use Rattle.gl_tracked.specs.declared.tracked.ArrayState.{ArrayState}
use Rattle.gl_tracked.specs.declared.tracked.Tracked.{Tracked}
use Rattle.array_capture.specs.declared.elements.Ends.{Ends}
use Rattle.gl_tracked.specs.Count.{count_drawn}
use Rattle.gl_tracked.specs.Element.{element_at}
use Rattle.gl_tracked.specs.Indices.{indices_at}
use Rattle.gl_tracked.specs.Ranges.{arrays_read, places_drawn, range_of_bytes, range_of_colour, range_of_image, range_of_indices, range_of_matrix, range_of_names, ranges_of_data, ranges_of_image, takes_indices}

-- the least of a place and others; own
unfoldable pub least_of : ℕ → List ℕ → ℕ
least_of place [] = place
least_of place (other ∷ others) = min place (least_of other others)

-- the greatest of a place and others; own
unfoldable pub greatest_of : ℕ → List ℕ → ℕ
greatest_of place [] = place
greatest_of place (other ∷ others) = max place (greatest_of other others)

-- the least and the greatest of some places, where there are any; own
abbrev pub ends_of : List ℕ → Option Ends
ends_of [] = None
ends_of (place ∷ places) = Some (record { least = least_of place places; greatest = greatest_of place places })

-- the range from the start of the element at one place of an array to the end of that at another; own
unfoldable pub span_of : ArrayState → ℕ → ℕ → Piece
span_of array least greatest = record {
  start = (element_at array least).start;
  len = (element_at array greatest).start + (element_at array greatest).len - (element_at array least).start;
}

-- where a memory ends: no segment holds a place from there on; own
unfoldable pub memory_end : List Segment → ℕ
memory_end [] = 0
memory_end (segment ∷ segments) = max (segment.start + length segment.bytes) (memory_end segments)

-- the part of a range before a place, where there is one; own
unfoldable pub part_before : ℕ → Piece → List Piece
part_before end range = if nat_lt range.start end && nat_lt 0 range.len then record { start = range.start; len = min range.len (end - range.start) } ∷ [] else []

-- the parts of ranges before the end of a memory, in order, without empty ones; own
unfoldable pub parts_in : List Segment → List Piece → List Piece
parts_in memory ranges = flat_map (part_before (memory_end memory)) ranges

-- the pieces for the elements from one place to another: one for each array that is read from client memory; own
unfoldable pub pieces_between : Tracked → ℕ → ℕ → List Segment → List Piece
pieces_between tracked least greatest memory = parts_in memory (map (λ array. span_of array least greatest) (arrays_read tracked))

-- the pieces for the elements at these places: those from the least place to the greatest, and none without a place; own
unfoldable pub pieces_at : Tracked → List ℕ → List Segment → List Piece
pieces_at tracked [] memory = []
pieces_at tracked (place ∷ places) memory = pieces_between tracked (least_of place places) (greatest_of place places) memory

-- the pieces for DrawArrays, by its first place and its count; own
unfoldable pub pieces_of_draw : Tracked → ℤ → ℤ → List Segment → List Piece
pieces_of_draw tracked first count memory = pieces_at tracked (places_drawn first count) memory

-- the pieces for LoadMatrixx and MultMatrixx at a pointer; own
unfoldable pub pieces_of_matrix : ℕ → List Segment → List Piece
pieces_of_matrix pointer memory = parts_in memory (range_of_matrix pointer ∷ [])

-- the pieces for DrawElements, by its count, and the type and the place of its indices: those for the elements that they name, and then that for the indices; none where it takes no indices from memory; own
unfoldable pub pieces_of_elements : Tracked → ℤ → ℕ → ℕ → List Segment → List Piece
pieces_of_elements tracked count kind place memory =
    if takes_indices tracked
    then pieces_at tracked (indices_at memory kind place (count_drawn count)) memory ++ parts_in memory (range_of_indices kind place (count_drawn count) ∷ [])
    else []

-- the pieces for BufferData: that for so many bytes from a place on, and none from 0; own
unfoldable pub pieces_of_data : ℕ → ℤ → List Segment → List Piece
pieces_of_data place size memory = parts_in memory (ranges_of_data place size)

-- the pieces for BufferSubData: that for so many bytes from a place on; own
unfoldable pub pieces_of_bytes : ℕ → ℤ → List Segment → List Piece
pieces_of_bytes place size memory = parts_in memory (range_of_bytes place size ∷ [])

-- the pieces for DeleteBuffers and DeleteTextures: that for so many names from a place on; own
unfoldable pub pieces_of_names : ℕ → ℤ → List Segment → List Piece
pieces_of_names place count memory = parts_in memory (range_of_names place count ∷ [])

-- the pieces for TexImage2D, by its format and its sides: that for an image from a place on, and none from 0; own
unfoldable pub pieces_of_image : Tracked → ℕ → ℤ → ℤ → ℕ → List Segment → List Piece
pieces_of_image tracked format width height place memory = parts_in memory (ranges_of_image tracked format width height place)

-- the pieces for TexSubImage2D, by its format and its sides: that for texels from a place on; own
unfoldable pub pieces_of_subimage : Tracked → ℕ → ℤ → ℤ → ℕ → List Segment → List Piece
pieces_of_subimage tracked format width height place memory = parts_in memory (range_of_image tracked format width height place ∷ [])

-- the pieces for TexEnvxv at a pointer; own
unfoldable pub pieces_of_colour : ℕ → List Segment → List Piece
pieces_of_colour pointer memory = parts_in memory (range_of_colour pointer ∷ [])
