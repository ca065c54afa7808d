-- Sound tracked state stays sound: what each kind of call sets is such as calls may set.
use Rattle.std.proofs.Common.{◌≡◌, ℕ, ◌+◌, ◌-◌, ℤ, true, false, eqb, List, None, sym, subst, arith}
use Rattle.std.specs.Prelude.{Contains}
use Rattle.std.proofs.lemmas.Bool.{cond_both}
use Rattle.gl_words.specs.declared.call.Call.{Call}
use Rattle.gl_words.specs.declared.call.Call.TheVariants.{ActiveTexture, BindBuffer, ClientActiveTexture, ColorPointer, DeleteBuffers, DisableClientState, EnableClientState, MatrixMode, NormalPointer, PixelStorei, PopMatrix, PushMatrix, TexCoordPointer, VertexPointer}
use Rattle.gl_memory.specs.Segment.{Segment}
use Rattle.gl_tracked.specs.declared.tracked.Tracked.{Tracked}
use Rattle.gl_tracked.specs.Fault.{fault_of}
use Rattle.gl_tracked.specs.Stack.{current_depth, current_most, with_depth}
use Rattle.gl_tracked.specs.Step.{set_by, with_alignment, with_binding}
use Rattle.gl_tracked.specs.Tracked.{IsSound, IsDepth, alignments, matrix_modes, units}
use Rattle.gl_tracked.proofs.ArrayLemmas.{with_enabled-sound, vertex_pointer-sound, colour_pointer-sound, normal_pointer-sound}
use Rattle.gl_tracked.specs.Count.{count_of}
use Rattle.gl_tracked.specs.Names.{names_at}
use Rattle.gl_tracked.proofs.Deleting.{without_buffers-sound}
use Rattle.gl_tracked.proofs.Faults.{among-contains, first_passed, passed, size_among-contains}
use Rattle.gl_tracked.proofs.Stacks.{current_depth-few, mode_is_known, pop_has_two, push_has_room, with_depth-depths}

module _ (tracked : Tracked) (sound : IsSound tracked) where
  with_active-sound : (unit : ℕ) → Contains units unit → IsSound (record tracked { active = unit })
  with_active-sound unit is = assumption

  with_client_active-sound : (unit : ℕ) → Contains units unit → IsSound (record tracked { client_active = unit })
  with_client_active-sound unit is = assumption

  with_mode-sound : (mode : ℕ) → Contains matrix_modes mode → IsSound (record tracked { matrix_mode = mode })
  with_mode-sound mode is = assumption

  with_unpack-sound : (alignment : ℤ) → Contains alignments alignment → IsSound (record tracked { unpack_alignment = alignment })
  with_unpack-sound alignment is = assumption

  with_pack-sound : (alignment : ℤ) → Contains alignments alignment → IsSound (record tracked { pack_alignment = alignment })
  with_pack-sound alignment is = assumption

  with_array_buffer-sound : (buffer : ℕ) → IsSound (record tracked { array_buffer = buffer })
  with_array_buffer-sound buffer = assumption

  with_element_buffer-sound : (buffer : ℕ) → IsSound (record tracked { element_buffer = buffer })
  with_element_buffer-sound buffer = assumption

  with_binding-sound : (target buffer : ℕ) → IsSound (with_binding tracked target buffer)
  unfolding with_binding
  with_binding-sound target buffer =
      cond_both (eqb target 0x8892) _ _ IsSound (λ _. with_array_buffer-sound buffer) (λ _. with_element_buffer-sound buffer)

  with_alignment-sound : (name : ℕ) (alignment : ℤ) → Contains alignments alignment → IsSound (with_alignment tracked name alignment)
  unfolding with_alignment
  with_alignment-sound name alignment is =
      cond_both (eqb name 0x0CF5) _ _ IsSound (λ _. with_unpack-sound alignment is) (λ _. with_pack-sound alignment is)

  with_depth-sound : (depth : ℕ) → IsDepth (current_most tracked) depth → IsSound (with_depth tracked depth)
  unfolding with_depth
  with_depth-sound depth is = let are = with_depth-depths tracked depth is sound in assumption

-- what a call without an error sets is sound
set_by-sound : (tracked : Tracked) (call : Call) (memory : List Segment) → fault_of tracked call ≡ None → IsSound tracked → IsSound (set_by tracked call memory)
unfolding set_by fault_of
set_by-sound tracked (ActiveTexture texture) memory h sound = with_active-sound tracked sound texture (among-contains units texture (passed _ _ h))
set_by-sound tracked (BindBuffer target buffer) memory h sound = with_binding-sound tracked sound target buffer
set_by-sound tracked (ClientActiveTexture texture) memory h sound = with_client_active-sound tracked sound texture (among-contains units texture (passed _ _ h))
set_by-sound tracked (ColorPointer size kind stride pointer) memory h sound = colour_pointer-sound tracked 0x8076 size kind stride pointer sound h
set_by-sound tracked (DeleteBuffers n names) memory h sound = without_buffers-sound (names_at memory names (count_of n)) tracked sound
set_by-sound tracked (DisableClientState array) memory h sound = with_enabled-sound tracked array false sound
set_by-sound tracked (EnableClientState array) memory h sound = with_enabled-sound tracked array true sound
set_by-sound tracked (MatrixMode mode) memory h sound = with_mode-sound tracked sound mode (mode_is_known mode (passed _ _ h))
set_by-sound tracked (NormalPointer kind stride pointer) memory h sound = normal_pointer-sound tracked kind stride pointer sound h
set_by-sound tracked (PixelStorei pname param) memory h sound =
    let named = first_passed _ _ _ h in
    let aligned = first_passed _ _ _ (named.1) in
    with_alignment-sound tracked sound pname param (size_among-contains alignments param (aligned.0))
set_by-sound tracked PopMatrix memory h sound =
    let two = pop_has_two tracked h in
    let few = current_depth-few tracked sound in
    with_depth-sound tracked sound (current_depth tracked - 1) (record { some = omega arith; few = omega arith })
set_by-sound tracked PushMatrix memory h sound =
    let room = push_has_room tracked h in
    with_depth-sound tracked sound (current_depth tracked + 1) (record { some = omega arith; few = omega arith })
set_by-sound tracked (TexCoordPointer size kind stride pointer) memory h sound = vertex_pointer-sound tracked 0x8078 size kind stride pointer sound h
set_by-sound tracked (VertexPointer size kind stride pointer) memory h sound = vertex_pointer-sound tracked 0x8074 size kind stride pointer sound h
set_by-sound tracked _ memory h sound = sound

-- sound tracked state stays sound
pub set-sound : (tracked new : Tracked) (call : Call) (memory : List Segment) → fault_of tracked call ≡ None → new ≡ set_by tracked call memory → IsSound tracked → IsSound new
set-sound tracked new call memory h is sound = subst (λ (t : Tracked). IsSound t) (sym is) (set_by-sound tracked call memory h sound)
