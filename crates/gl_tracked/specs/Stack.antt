-- The stacks of matrices, as tracked state knows them: which is current, how deep it is and may be. No matrix stands here.
use Rattle.std.specs.Prelude.{ℕ, ◌==◌, Bool, slice_index_or, slice_set, if◌then◌else◌}
use Rattle.std.specs.List.{list_any}
use Rattle.gl_tracked.specs.declared.tracked.Tracked.{Tracked}
use Rattle.gl_tracked.specs.Tracked.{matrix_modes, most_depths}

-- a number is a mode of matrices; section 2.10.2
unfoldable pub is_matrix_mode : ℕ → Bool
is_matrix_mode mode = list_any (λ known. known == mode) matrix_modes

-- the current stack as its place among the depths: that of the mode, and for TEXTURE that of the active unit; section 2.10.2
unfoldable pub current_stack : Tracked → ℕ
current_stack tracked =
    if tracked.matrix_mode == 0x1700 then 0 else (
    if tracked.matrix_mode == 0x1701 then 1 else (
    if tracked.active == 0x84C0 then 2 else 3))

-- the texture stack of the active unit, as its place among the depths; section 2.10.2
unfoldable pub texture_stack : Tracked → ℕ
texture_stack tracked = if tracked.active == 0x84C0 then 2 else 3

-- how many matrices there are on a stack, by its place; section 2.10.2
unfoldable pub depth_at : Tracked → ℕ → ℕ
depth_at tracked place = slice_index_or tracked.depths place 0

-- how many matrices there are on the current stack; section 2.10.2
unfoldable pub current_depth : Tracked → ℕ
current_depth tracked = slice_index_or tracked.depths (current_stack tracked) 0

-- how many matrices the current stack may hold; section 2.10.2
unfoldable pub current_most : Tracked → ℕ
current_most tracked = slice_index_or most_depths (current_stack tracked) 0

-- tracked state with another depth of the current stack; own
unfoldable pub with_depth : Tracked → ℕ → Tracked
with_depth tracked depth = record tracked { depths = slice_set tracked.depths (current_stack tracked) depth }
