-- The bytes of slots, eight to a slot; own. What else slots hold stands nowhere here.
use Rattle.std.specs.Prelude.{ℕ, ◌+◌, ◌*◌, ◌/◌, ◌%◌, ◌^◌, ◌≤◌, List, length, map, take, drop}
use Rattle.std.specs.List.{flat_map, range_with_len}

-- the eight bytes of a slot, that of the lowest eight bits first; own
unfoldable pub bytes_of_slot : ℕ → List ℕ
bytes_of_slot slot = map (λ number. slot / 2 ^ (8 * number) % 256) (range_with_len 0 8)

-- the bytes of slots, one slot after another; own
unfoldable pub bytes_of_slots : List ℕ → List ℕ
bytes_of_slots slots = flat_map bytes_of_slot slots

-- so many bytes lie in slots from byte skip on; own
abbrev pub LieIn : List ℕ → ℕ → ℕ → Type 0
LieIn slots skip len = skip + len ≤ 8 * length slots

-- the bytes of slots from byte skip on, so many; own
unfoldable pub lent : List ℕ → ℕ → ℕ → List ℕ
lent slots skip len = take len (drop skip (bytes_of_slots slots))
