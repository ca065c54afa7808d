-- Names of objects that lie in memory, and what their deletion does to bindings; sections 2.9 and 3.7.11. No object stands here.
use Rattle.std.specs.Prelude.{ℕ, ◌+◌, ◌*◌, ◌==◌, if◌then◌else◌, List, map}
use Rattle.std.specs.List.{list_any, range_with_len}
use Rattle.gl_memory.specs.Number.{u32_at}
use Rattle.gl_memory.specs.Segment.{Segment}
use Rattle.gl_tracked.specs.declared.tracked.ArrayState.{ArrayState}
use Rattle.gl_tracked.specs.declared.tracked.Tracked.{Tracked}

-- the name with a number, from 0, of those that lie from a place of memory on, of four bytes each; section 2.9
abbrev pub name_at : List Segment → ℕ → ℕ → ℕ
name_at memory place number = u32_at memory (place + 4 * number)

-- so many names that lie from a place of memory on; section 2.9
unfoldable pub names_at : List Segment → ℕ → ℕ → List ℕ
names_at memory place count = map (name_at memory place) (range_with_len 0 count)

-- a binding after these names were deleted: 0 where it is one of them, whether or not it was that of an object; section 2.9, the last own
unfoldable pub binding_after : List ℕ → ℕ → ℕ
binding_after names binding = if list_any (λ name. name == binding) names then 0 else binding

-- an array after these buffers were deleted: it lies in client memory where it lay in one of them; section 2.9, for arrays own
unfoldable pub array_after : List ℕ → ArrayState → ArrayState
array_after names array = record array { buffer = binding_after names array.buffer }

-- tracked state after these buffers were deleted: each array and both bindings; section 2.9, for arrays own
unfoldable pub without_buffers : List ℕ → Tracked → Tracked
without_buffers names tracked = record tracked {
  vertex = array_after names tracked.vertex;
  normal = array_after names tracked.normal;
  colour = array_after names tracked.colour;
  texture = map (array_after names) tracked.texture;
  array_buffer = binding_after names tracked.array_buffer;
  element_buffer = binding_after names tracked.element_buffer;
}
