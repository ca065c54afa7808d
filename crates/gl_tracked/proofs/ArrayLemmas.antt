-- What calls on arrays leave: each array is one, whichever of them an enumerant names.
use Rattle.std.proofs.Common.{◌≡◌, ℕ, zero, suc, ◌<◌, ℤ, pos, ◌≤ℤ◌, Bool, true, false, ◌||◌, eqb, List, [], ◌∷◌, None, refl, arith}
use Rattle.std.specs.Prelude.{Contains, slice_index_or, slice_set}
use Rattle.std.proofs.lemmas.Bool.{cond_both}
use Rattle.std.proofs.lemmas.Int.{ints}
use Rattle.std.proofs.lemmas.List.Elements.{All-contains}
use Rattle.gl_tracked.specs.declared.tracked.ArrayState.{ArrayState}
use Rattle.gl_tracked.specs.declared.tracked.Tracked.{Tracked}
use Rattle.gl_tracked.specs.Arrays.{array_of, client_unit, current_coordinates, with_array, with_enabled, with_pointer}
use Rattle.gl_tracked.specs.Fault.{is_among, pointer_fault, size_is_among}
use Rattle.gl_tracked.specs.Tracked.{IsArray, IsSound, AreTwoArrays, array_sizes, array_types, colour_types, first_array, vertex_types}
use Rattle.gl_tracked.proofs.Faults.{among-contains, pointer_has_place, size_among-contains}

first_is_array : IsArray first_array
first_is_array = record { some = omega (arith, ints); few = omega (arith, ints); typed = (3, omega arith, refl); forward = omega (arith, ints) }

coordinates_are_array : (texture : List ArrayState) (unit : ℕ) → AreTwoArrays texture → IsArray (slice_index_or texture unit first_array)
coordinates_are_array (one ∷ other ∷ []) zero are = are.0
coordinates_are_array (one ∷ other ∷ []) (suc zero) are = are.1
coordinates_are_array (one ∷ other ∷ []) (suc (suc unit)) are = first_is_array
coordinates_are_array _ unit are = absurd are

coordinates_with : (texture : List ArrayState) (unit : ℕ) (new : ArrayState) → IsArray new → AreTwoArrays texture → AreTwoArrays (slice_set texture unit new)
coordinates_with (one ∷ other ∷ []) zero new is are = (is, are.1)
coordinates_with (one ∷ other ∷ []) (suc zero) new is are = (are.0, is)
coordinates_with (one ∷ other ∷ []) (suc (suc unit)) new is are = are
coordinates_with _ unit new is are = absurd are

current_coordinates-array : (tracked : Tracked) → IsSound tracked → IsArray (current_coordinates tracked)
unfolding current_coordinates
current_coordinates-array tracked sound = coordinates_are_array tracked.texture (client_unit tracked) sound.texture

-- each array of sound tracked state is one
pub array_of-array : (tracked : Tracked) (array : ℕ) → IsSound tracked → IsArray (array_of tracked array)
unfolding array_of
array_of-array tracked array sound =
    cond_both (eqb array 0x8074) _ _ IsArray (λ _. sound.vertex) (λ _.
    cond_both (eqb array 0x8075) _ _ IsArray (λ _. sound.normal) (λ _.
    cond_both (eqb array 0x8076) _ _ IsArray (λ _. sound.colour) (λ _. current_coordinates-array tracked sound)))

module _ (tracked : Tracked) (new : ArrayState) (is : IsArray new) (sound : IsSound tracked) where
  with_vertex-sound : IsSound (record tracked { vertex = new })
  with_vertex-sound = assumption

  with_normal-sound : IsSound (record tracked { normal = new })
  with_normal-sound = assumption

  with_colour-sound : IsSound (record tracked { colour = new })
  with_colour-sound = assumption

  with_coordinates-sound : (unit : ℕ) → IsSound (record tracked { texture = slice_set tracked.texture unit new })
  with_coordinates-sound unit = let are = coordinates_with tracked.texture unit new is sound.texture in assumption

  -- an array in the place of another keeps tracked state sound
  pub with_array-sound : (array : ℕ) → IsSound (with_array tracked array new)
  unfolding with_array
  with_array-sound array =
      cond_both (eqb array 0x8074) _ _ IsSound (λ _. with_vertex-sound) (λ _.
      cond_both (eqb array 0x8075) _ _ IsSound (λ _. with_normal-sound) (λ _.
      cond_both (eqb array 0x8076) _ _ IsSound (λ _. with_colour-sound) (λ _. with_coordinates-sound (client_unit tracked))))

enabled_is_array : (array : ArrayState) (is_on : Bool) → IsArray array → IsArray (record array { enabled = is_on })
enabled_is_array array is_on is = assumption

-- an array that is enabled or disabled keeps tracked state sound
pub with_enabled-sound : (tracked : Tracked) (array : ℕ) (is_on : Bool) → IsSound tracked → IsSound (with_enabled tracked array is_on)
unfolding with_enabled
with_enabled-sound tracked array is_on sound =
    with_array-sound tracked _ (enabled_is_array (array_of tracked array) is_on (array_of-array tracked array sound)) sound array

-- how many numbers an element may have; table 2.4
record IsFew (size : ℤ) : Type 0 where
  pub some : pos 1 ≤ℤ size
  pub few : size ≤ℤ pos 4

sizes_are_few : (at : ℕ) (d : ℤ) → at < 3 → IsFew (slice_index_or array_sizes at d)
sizes_are_few zero d h = record { some = omega (arith, ints); few = omega (arith, ints) }
sizes_are_few (suc zero) d h = record { some = omega (arith, ints); few = omega (arith, ints) }
sizes_are_few (suc (suc zero)) d h = record { some = omega (arith, ints); few = omega (arith, ints) }
sizes_are_few (suc (suc (suc at))) d h = absurd (omega arith)

four_is_few : (at : ℕ) (d : ℤ) → at < 1 → IsFew (slice_index_or (pos 4 ∷ []) at d)
four_is_few zero d h = record { some = omega (arith, ints); few = omega (arith, ints) }
four_is_few (suc at) d h = absurd (omega arith)

vertex_among : (a b c d : Bool) → (a || (c || (d || false))) ≡ true → (a || (b || (c || (d || false)))) ≡ true
vertex_among true b c d h = refl
vertex_among false true c d h = refl
vertex_among false false c d h = h

colour_among : (a b c d : Bool) → (b || (d || false)) ≡ true → (a || (b || (c || (d || false)))) ≡ true
colour_among true b c d h = refl
colour_among false true c d h = refl
colour_among false false true d h = refl
colour_among false false false d h = h

-- a type of vertices is a type of arrays
vertex_type-known : (kind : ℕ) → is_among vertex_types kind ≡ true → Contains array_types kind
unfolding is_among
vertex_type-known kind h =
    among-contains array_types kind (vertex_among (eqb 0x1400 kind) (eqb 0x1401 kind) (eqb 0x1402 kind) (eqb 0x140C kind) h)

-- a type of colours is a type of arrays
colour_type-known : (kind : ℕ) → is_among colour_types kind ≡ true → Contains array_types kind
unfolding is_among
colour_type-known kind h =
    among-contains array_types kind (colour_among (eqb 0x1400 kind) (eqb 0x1401 kind) (eqb 0x1402 kind) (eqb 0x140C kind) h)

module _ (tracked : Tracked) (array : ℕ) (size : ℤ) (kind : ℕ) (stride : ℤ) (pointer : ℕ) (sound : IsSound tracked) where
  placed_array-sound : IsFew size → Contains array_types kind → pos 0 ≤ℤ stride → IsSound (with_pointer tracked array size kind stride pointer)
  unfolding with_pointer
  placed_array-sound few typed forward =
      with_array-sound tracked _ (record { some = few.some; few = few.few; typed = typed; forward = forward }) sound array

  -- a pointer to vertices or texture coordinates without an error keeps tracked state sound
  pub vertex_pointer-sound : pointer_fault (size_is_among array_sizes size) (is_among vertex_types kind) stride ≡ None → IsSound (with_pointer tracked array size kind stride pointer)
  vertex_pointer-sound h =
      let has = pointer_has_place _ _ stride h in
      let few = All-contains IsFew array_sizes size sizes_are_few (size_among-contains array_sizes size has.sized) in
      placed_array-sound few (vertex_type-known kind has.typed) has.forward

  -- a pointer to colours without an error keeps tracked state sound
  pub colour_pointer-sound : pointer_fault (size_is_among (pos 4 ∷ []) size) (is_among colour_types kind) stride ≡ None → IsSound (with_pointer tracked array size kind stride pointer)
  colour_pointer-sound h =
      let has = pointer_has_place _ _ stride h in
      let few = All-contains IsFew (pos 4 ∷ []) size four_is_few (size_among-contains (pos 4 ∷ []) size has.sized) in
      placed_array-sound few (colour_type-known kind has.typed) has.forward

-- a pointer to normals without an error keeps tracked state sound: their size stays
pub normal_pointer-sound : (tracked : Tracked) (kind : ℕ) (stride : ℤ) (pointer : ℕ) → IsSound tracked → pointer_fault true (is_among vertex_types kind) stride ≡ None
    → IsSound (with_pointer tracked 0x8075 tracked.normal.size kind stride pointer)
normal_pointer-sound tracked kind stride pointer sound h =
    let has = pointer_has_place true _ stride h in
    let few : IsFew tracked.normal.size = record { some = sound.normal.some; few = sound.normal.few } in
    placed_array-sound tracked 0x8075 tracked.normal.size kind stride pointer sound few (vertex_type-known kind has.typed) has.forward
