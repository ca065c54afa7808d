-- The stacks are as deep as tracked state says, before a call and after it.
use Rattle.std.proofs.Common.{◌≡◌, ℕ, ◌+◌, ◌-◌, ◌≤◌, ◌≢◌, ℤ, Bool, true, false, cond, eqb, List, [], ◌∷◌, length, None, refl, sym, ap, subst, ◌∙◌, arith}
use Rattle.std.specs.Prelude.{◌==◌, slice_index_or, slice_set}
use Rattle.std.proofs.lemmas.Bool.{cond_both}
use Rattle.gl_words.specs.declared.call.Call.{Call}
use Rattle.gl_words.specs.declared.call.Call.TheVariants.{BindBuffer, ColorPointer, DeleteBuffers, DisableClientState, EnableClientState, Frustumx, LoadIdentity, LoadMatrixx, MultMatrixx, NormalPointer, Orthox, PixelStorei, PopMatrix, PushMatrix, Rotatex, Scalex, TexCoordPointer, Translatex, VertexPointer}
use Rattle.gl_memory.specs.Segment.{Segment}
use Rattle.fixed_transform.specs.declared.matrix.Matrix.{Matrix}
use Rattle.fixed_transform.specs.Stack.{top_of, below_top}
use Rattle.gl_tracked.specs.declared.tracked.ArrayState.{ArrayState}
use Rattle.gl_tracked.specs.declared.tracked.Tracked.{Tracked}
use Rattle.gl_tracked.specs.Arrays.{with_array, with_enabled, with_pointer}
use Rattle.gl_tracked.specs.Fault.{fault_of}
use Rattle.gl_tracked.specs.Stack.{current_stack, current_depth, current_most, with_depth}
use Rattle.gl_tracked.specs.Names.{without_buffers}
use Rattle.gl_tracked.specs.Step.{set_by, with_alignment, with_binding}
use Rattle.gl_tracked.specs.Tracked.{most_depths, AreDepths, IsSound}
use Rattle.gl_tracked.proofs.Stacks.{pop_has_two, push_has_room}
use Rattle.gl_state.specs.Stacks.{StacksView, current_of, most_of, depths_of}
use Rattle.gl_state.specs.Step.{with_change, stacks_set_by}

-- which stack is current, by three tests: whether the mode is that of the model view, or of the projection, and whether the unit is the first
abbrev place_by : Bool → Bool → Bool → ℕ
place_by mode projection unit = cond mode 0 (cond projection 1 (cond unit 2 3))

abbrev stack_by : Bool → Bool → Bool → StacksView → List Matrix
stack_by mode projection unit s = cond mode s.model_view (cond projection s.projection (cond unit s.texture_zero s.texture_one))

abbrev with_by : Bool → Bool → Bool → StacksView → List Matrix → StacksView
with_by mode projection unit s matrices =
    cond mode (record s { model_view = matrices }) (
    cond projection (record s { projection = matrices }) (
    cond unit (record s { texture_zero = matrices }) (record s { texture_one = matrices })))

depth_by : (mode projection unit : Bool) (s : StacksView) → slice_index_or (depths_of s) (place_by mode projection unit) 0 ≡ length (stack_by mode projection unit s)
depth_by true projection unit s = refl
depth_by false true unit s = refl
depth_by false false true s = refl
depth_by false false false s = refl

most_by : (mode projection unit : Bool) → slice_index_or most_depths (place_by mode projection unit) 0 ≡ cond mode 16 2
most_by true projection unit = refl
most_by false true unit = refl
most_by false false true = refl
most_by false false false = refl

depths_by : (mode projection unit : Bool) (s : StacksView) (matrices : List Matrix) → depths_of (with_by mode projection unit s matrices) ≡ slice_set (depths_of s) (place_by mode projection unit) (length matrices)
depths_by true projection unit s matrices = refl
depths_by false true unit s matrices = refl
depths_by false false true s matrices = refl
depths_by false false false s matrices = refl

same_depths_by : (mode projection unit : Bool) (s : StacksView) (matrices : List Matrix) → length matrices ≡ length (stack_by mode projection unit s) → depths_of s ≡ depths_of (with_by mode projection unit s matrices)
same_depths_by true projection unit s matrices same = cc
same_depths_by false true unit s matrices same = cc
same_depths_by false false true s matrices same = cc
same_depths_by false false false s matrices same = cc

some_by : (mode projection unit : Bool) (s : StacksView) → AreDepths most_depths (depths_of s) → 1 ≤ length (stack_by mode projection unit s)
some_by true projection unit s each = each.0.some
some_by false true unit s each = each.1.0.some
some_by false false true s each = each.1.1.0.some
some_by false false false s each = each.1.1.1.0.some

length-below_top : (matrices : List Matrix) → length (below_top matrices) ≡ length matrices - 1
length-below_top [] = refl
length-below_top (top ∷ below) = omega arith

module _ (tracked : Tracked) (s : StacksView) (deep : tracked.depths ≡ depths_of s) where
  -- the current stack is as deep as tracked state says
  pub current_depth-length : current_depth tracked ≡ length (current_of s tracked.matrix_mode tracked.active)
  unfolding current_depth current_stack
  current_depth-length =
      ap (λ (depths : List ℕ). slice_index_or depths (current_stack tracked) 0) deep
      ∙ depth_by (tracked.matrix_mode == 0x1700) (tracked.matrix_mode == 0x1701) (tracked.active == 0x84C0) s

  -- the depths after another current stack
  depths_of-with_change : (change : List Matrix → List Matrix) → depths_of (with_change change tracked s) ≡ (with_depth tracked (length (change (current_of s tracked.matrix_mode tracked.active)))).depths
  unfolding with_depth current_stack
  depths_of-with_change change =
      depths_by (tracked.matrix_mode == 0x1700) (tracked.matrix_mode == 0x1701) (tracked.active == 0x84C0) s (change (current_of s tracked.matrix_mode tracked.active))
      ∙ ap (λ (depths : List ℕ). slice_set depths (current_stack tracked) (length (change (current_of s tracked.matrix_mode tracked.active)))) (sym deep)

-- the most that tracked state knows is the most of the current stack
pub current_most-most_of : (tracked : Tracked) → current_most tracked ≡ most_of tracked.matrix_mode
unfolding current_most current_stack
current_most-most_of tracked = most_by (tracked.matrix_mode == 0x1700) (tracked.matrix_mode == 0x1701) (tracked.active == 0x84C0)

module _ (tracked : Tracked) (s : StacksView) (deep : tracked.depths ≡ depths_of s) where
  -- where no error is found, a pop leaves a matrix, and a push has room
  pub pop_leaves_one : fault_of tracked PopMatrix ≡ None → length (current_of s tracked.matrix_mode tracked.active) ≢ 1
  pop_leaves_one h = let two = pop_has_two tracked h in let same = current_depth-length tracked s deep in λ one. omega arith

  pub push_finds_room : fault_of tracked PushMatrix ≡ None → length (current_of s tracked.matrix_mode tracked.active) ≢ most_of tracked.matrix_mode
  push_finds_room h =
      let room = push_has_room tracked h in
      let same = current_depth-length tracked s deep in
      let most = current_most-most_of tracked in
      λ full. omega arith

-- calls on arrays, alignments and bindings leave the depths
module _ (tracked : Tracked) where
  with_array-depths : (array : ℕ) (new : ArrayState) → (with_array tracked array new).depths ≡ tracked.depths
  unfolding with_array
  with_array-depths array new =
      cond_both (eqb array 0x8074) _ _ (λ (t : Tracked). t.depths ≡ tracked.depths) (λ _. refl) (λ _.
      cond_both (eqb array 0x8075) _ _ (λ (t : Tracked). t.depths ≡ tracked.depths) (λ _. refl) (λ _.
      cond_both (eqb array 0x8076) _ _ (λ (t : Tracked). t.depths ≡ tracked.depths) (λ _. refl) (λ _. refl)))

  with_enabled-depths : (array : ℕ) (is_on : Bool) → (with_enabled tracked array is_on).depths ≡ tracked.depths
  unfolding with_enabled
  with_enabled-depths array is_on = with_array-depths array _

  with_pointer-depths : (array : ℕ) (size : ℤ) (kind : ℕ) (stride : ℤ) (pointer : ℕ) → (with_pointer tracked array size kind stride pointer).depths ≡ tracked.depths
  unfolding with_pointer
  with_pointer-depths array size kind stride pointer = with_array-depths array _

  with_alignment-depths : (name : ℕ) (alignment : ℤ) → (with_alignment tracked name alignment).depths ≡ tracked.depths
  unfolding with_alignment
  with_alignment-depths name alignment = cond_both (eqb name 0x0CF5) _ _ (λ (t : Tracked). t.depths ≡ tracked.depths) (λ _. refl) (λ _. refl)

  with_binding-depths : (target buffer : ℕ) → (with_binding tracked target buffer).depths ≡ tracked.depths
  unfolding with_binding
  with_binding-depths target buffer = cond_both (eqb target 0x8892) _ _ (λ (t : Tracked). t.depths ≡ tracked.depths) (λ _. refl) (λ _. refl)

  without_buffers-depths : (names : List ℕ) → (without_buffers names tracked).depths ≡ tracked.depths
  unfolding without_buffers
  without_buffers-depths names = refl

-- the stacks are as deep as tracked state says after a call without an error too
module _ (tracked : Tracked) (s : StacksView) (sound : IsSound tracked) (deep : tracked.depths ≡ depths_of s) where
  some_current : 1 ≤ length (current_of s tracked.matrix_mode tracked.active)
  some_current = some_by (tracked.matrix_mode == 0x1700) (tracked.matrix_mode == 0x1701) (tracked.active == 0x84C0) s (subst (λ (depths : List ℕ). AreDepths most_depths depths) deep sound.depths)

  -- another top matrix leaves the depths
  topped : (matrix : Matrix) → tracked.depths ≡ depths_of (with_change (λ matrices. matrix ∷ below_top matrices) tracked s)
  topped matrix =
      let some = some_current in
      deep ∙ same_depths_by (tracked.matrix_mode == 0x1700) (tracked.matrix_mode == 0x1701) (tracked.active == 0x84C0) s (matrix ∷ below_top (current_of s tracked.matrix_mode tracked.active))
      (omega (arith, length-below_top (current_of s tracked.matrix_mode tracked.active)))

  -- a stack that is one shallower, or one deeper
  at_depth : (change : List Matrix → List Matrix) (depth : ℕ) → depth ≡ length (change (current_of s tracked.matrix_mode tracked.active)) → (with_depth tracked depth).depths ≡ depths_of (with_change change tracked s)
  at_depth change depth same = ap (λ (d : ℕ). (with_depth tracked d).depths) same ∙ sym (depths_of-with_change tracked s deep change)

  pub depths-set_by : (call : Call) (memory : List Segment) → (set_by tracked call memory).depths ≡ depths_of (stacks_set_by tracked s call memory)
  unfolding set_by stacks_set_by
  depths-set_by (BindBuffer target buffer) memory = with_binding-depths tracked target buffer ∙ deep
  depths-set_by (ColorPointer size kind stride pointer) memory = with_pointer-depths tracked 0x8076 size kind stride pointer ∙ deep
  depths-set_by (DeleteBuffers n names) memory = without_buffers-depths tracked _ ∙ deep
  depths-set_by (DisableClientState array) memory = with_enabled-depths tracked array false ∙ deep
  depths-set_by (EnableClientState array) memory = with_enabled-depths tracked array true ∙ deep
  depths-set_by (Frustumx left right bottom top near far) memory = topped _
  depths-set_by LoadIdentity memory = topped _
  depths-set_by (LoadMatrixx matrix) memory = topped _
  depths-set_by (MultMatrixx matrix) memory = topped _
  depths-set_by (NormalPointer kind stride pointer) memory = with_pointer-depths tracked 0x8075 tracked.normal.size kind stride pointer ∙ deep
  depths-set_by (Orthox left right bottom top near far) memory = topped _
  depths-set_by (PixelStorei pname param) memory = with_alignment-depths tracked pname param ∙ deep
  depths-set_by PopMatrix memory =
      at_depth below_top (current_depth tracked - 1) (omega (arith, current_depth-length tracked s deep, length-below_top (current_of s tracked.matrix_mode tracked.active)))
  depths-set_by PushMatrix memory =
      at_depth (λ matrices. top_of matrices ∷ matrices) (current_depth tracked + 1) (omega (arith, current_depth-length tracked s deep))
  depths-set_by (Rotatex angle x y z) memory = topped _
  depths-set_by (Scalex x y z) memory = topped _
  depths-set_by (TexCoordPointer size kind stride pointer) memory = with_pointer-depths tracked 0x8078 size kind stride pointer ∙ deep
  depths-set_by (Translatex x y z) memory = topped _
  depths-set_by (VertexPointer size kind stride pointer) memory = with_pointer-depths tracked 0x8074 size kind stride pointer ∙ deep
  depths-set_by _ memory = deep
