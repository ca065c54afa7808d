-- Deletions, name after name: what one more name leaves, and that arrays stay such as calls may set.
use Rattle.std.proofs.Common.{◌≡◌, ℕ, ◌+◌, Bool, true, false, ◌||◌, cond, eqb, List, [], ◌∷◌, ◌++◌, map, refl, sym, ap, ◌∙◌, arith}
use Rattle.std.specs.List.{list_any}
use Rattle.std.proofs.lemmas.List.FromFn.{map-range_with_len_more}
use Rattle.std.proofs.lemmas.List.Folds.{list_any-append}
use Rattle.gl_memory.specs.Segment.{Segment}
use Rattle.gl_tracked.specs.declared.tracked.ArrayState.{ArrayState}
use Rattle.gl_tracked.specs.declared.tracked.Tracked.{Tracked}
use Rattle.gl_tracked.specs.Names.{array_after, binding_after, name_at, names_at, without_buffers}
use Rattle.gl_tracked.specs.Tracked.{AreTwoArrays, IsArray, IsSound}

same_both : (test : Bool) (n : ℕ) → cond test n n ≡ n
same_both true n = refl
same_both false n = refl

-- a binding that was forgotten stays so, and another one is judged by the new name
forgotten : (among : Bool) (name binding : ℕ) → cond (eqb name (cond among 0 binding) || false) 0 (cond among 0 binding) ≡ cond (among || (eqb name binding || false)) 0 binding
forgotten true name binding = same_both (eqb name 0 || false) 0
forgotten false name binding = refl

-- a binding after one name more
pub binding_after-more : (names : List ℕ) (name binding : ℕ) → binding_after (name ∷ []) (binding_after names binding) ≡ binding_after (names ++ name ∷ []) binding
unfolding binding_after
binding_after-more names name binding =
    forgotten (list_any (λ other. eqb other binding) names) name binding
    ∙ ap (λ (among : Bool). cond among 0 binding) (sym (list_any-append (λ other. eqb other binding) names (name ∷ [])))

pub binding_after-none : (binding : ℕ) → binding_after [] binding ≡ binding
unfolding binding_after
binding_after-none binding = refl

array_after-more : (names : List ℕ) (name : ℕ) (array : ArrayState) → array_after (name ∷ []) (array_after names array) ≡ array_after (names ++ name ∷ []) array
unfolding array_after
array_after-more names name array = ap (λ (buffer : ℕ). record array { buffer = buffer }) (binding_after-more names name array.buffer)

array_after-none : (array : ArrayState) → array_after [] array ≡ array
unfolding array_after binding_after
array_after-none array = refl

arrays_more : (names : List ℕ) (name : ℕ) (arrays : List ArrayState) → map (array_after (name ∷ [])) (map (array_after names) arrays) ≡ map (array_after (names ++ name ∷ [])) arrays
arrays_more names name [] = refl
arrays_more names name (array ∷ arrays) = cc (array_after-more names name array, arrays_more names name arrays)

arrays_none : (arrays : List ArrayState) → map (array_after []) arrays ≡ arrays
arrays_none [] = refl
arrays_none (array ∷ arrays) = cc (array_after-none array, arrays_none arrays)

-- bindings of textures, after one name more, and after none
pub bindings_more : (names : List ℕ) (name : ℕ) (bindings : List ℕ) → map (binding_after (name ∷ [])) (map (binding_after names) bindings) ≡ map (binding_after (names ++ name ∷ [])) bindings
bindings_more names name [] = refl
bindings_more names name (binding ∷ bindings) = cc (binding_after-more names name binding, bindings_more names name bindings)

pub bindings_none : (bindings : List ℕ) → map (binding_after []) bindings ≡ bindings
bindings_none [] = refl
bindings_none (binding ∷ bindings) = cc (binding_after-none binding, bindings_none bindings)

-- tracked state after one name more
pub without_buffers-more : (names : List ℕ) (name : ℕ) (tracked : Tracked) → without_buffers (name ∷ []) (without_buffers names tracked) ≡ without_buffers (names ++ name ∷ []) tracked
unfolding without_buffers
without_buffers-more names name tracked =
    cc (
      array_after-more names name tracked.vertex,
      array_after-more names name tracked.normal,
      array_after-more names name tracked.colour,
      arrays_more names name tracked.texture,
      binding_after-more names name tracked.array_buffer,
      binding_after-more names name tracked.element_buffer,
    )

-- and after none
pub without_buffers-none : (tracked : Tracked) → tracked ≡ without_buffers [] tracked
unfolding without_buffers
without_buffers-none tracked =
    let put : ArrayState → ArrayState → ArrayState → List ArrayState → ℕ → ℕ → Tracked =
    λ vertex normal colour texture array element. record tracked {
      vertex = vertex;
      normal = normal;
      colour = colour;
      texture = texture;
      array_buffer = array;
      element_buffer = element;
    } in
    let same : put (array_after [] tracked.vertex) (array_after [] tracked.normal) (array_after [] tracked.colour) (map (array_after []) tracked.texture) (binding_after [] tracked.array_buffer) (binding_after [] tracked.element_buffer)
    ≡ put tracked.vertex tracked.normal tracked.colour tracked.texture tracked.array_buffer tracked.element_buffer =
    cc (
      array_after-none tracked.vertex,
      array_after-none tracked.normal,
      array_after-none tracked.colour,
      arrays_none tracked.texture,
      binding_after-none tracked.array_buffer,
      binding_after-none tracked.element_buffer,
    ) in
    sym same

-- names in memory, one more and none
pub names_at-more : (memory : List Segment) (place count : ℕ) → names_at memory place (count + 1) ≡ names_at memory place count ++ name_at memory place count ∷ []
unfolding names_at
names_at-more memory place count = map-range_with_len_more (name_at memory place) 0 count count (omega arith)

pub names_at-none : (memory : List Segment) (place : ℕ) → names_at memory place 0 ≡ []
unfolding names_at
names_at-none memory place = refl

module _ (names : List ℕ) where
  array_after-array : (array : ArrayState) → IsArray array → IsArray (array_after names array)
  unfolding array_after
  array_after-array array is = assumption

  arrays_after-arrays : (arrays : List ArrayState) → AreTwoArrays arrays → AreTwoArrays (map (array_after names) arrays)
  arrays_after-arrays (one ∷ other ∷ []) are = (array_after-array one (are.0), array_after-array other (are.1))
  arrays_after-arrays [] are = absurd are
  arrays_after-arrays (one ∷ []) are = absurd are
  arrays_after-arrays (one ∷ other ∷ third ∷ others) are = absurd are

  -- tracked state stays sound
  pub without_buffers-sound : (tracked : Tracked) → IsSound tracked → IsSound (without_buffers names tracked)
  unfolding without_buffers
  without_buffers-sound tracked sound =
      let vertex = array_after-array tracked.vertex sound.vertex in
      let normal = array_after-array tracked.normal sound.normal in
      let colour = array_after-array tracked.colour sound.colour in
      let texture = arrays_after-arrays tracked.texture sound.texture in
      assumption
