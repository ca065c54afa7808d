-- What calls on stacks find and leave: depths stay within their bounds, and modes are known.
use Rattle.std.proofs.Common.{◌≡◌, ℕ, zero, suc, ◌<◌, ◌≤◌, true, eqb, List, [], ◌∷◌, None, sym, arith, lit≤}
use Rattle.std.specs.Prelude.{Contains, nat_lt, slice_index_or, slice_set}
use Rattle.std.proofs.lemmas.Bool.{eqb-true}
use Rattle.std.proofs.lemmas.Bool.Decides.{nat_tests}
use Rattle.std.proofs.lemmas.Map.Views.{Contains-from_any}
use Rattle.gl_words.specs.declared.call.Call.TheVariants.{PopMatrix, PushMatrix}
use Rattle.gl_tracked.specs.declared.tracked.Tracked.{Tracked}
use Rattle.gl_tracked.specs.Fault.{fault_of}
use Rattle.gl_tracked.specs.Stack.{is_matrix_mode, current_stack, current_depth, current_most, with_depth}
use Rattle.gl_tracked.specs.Tracked.{IsSound, IsDepth, AreDepths, matrix_modes, most_depths}
use Rattle.gl_tracked.proofs.Faults.{passed}

below : (m n : ℕ) → nat_lt m n ≡ true → m < n
below m n h = grind (arith, nat_tests)

-- where no error is found, a pop leaves a matrix, and a push has room
pub pop_has_two : (tracked : Tracked) → fault_of tracked PopMatrix ≡ None → 1 < current_depth tracked
unfolding fault_of
pop_has_two tracked h = below 1 (current_depth tracked) (passed _ _ h)

pub push_has_room : (tracked : Tracked) → fault_of tracked PushMatrix ≡ None → current_depth tracked < current_most tracked
unfolding fault_of
push_has_room tracked h = below (current_depth tracked) (current_most tracked) (passed _ _ h)

few_matrices : (at : ℕ) → slice_index_or most_depths at 0 ≤ 16
few_matrices zero = lit≤ tt
few_matrices (suc zero) = lit≤ tt
few_matrices (suc (suc zero)) = lit≤ tt
few_matrices (suc (suc (suc zero))) = lit≤ tt
few_matrices (suc (suc (suc (suc at)))) = lit≤ tt

-- no stack holds more than sixteen
pub current_most-few : (tracked : Tracked) → current_most tracked ≤ 16
unfolding current_most
current_most-few tracked = few_matrices (current_stack tracked)

-- a mode that passes the test is one of the list
pub mode_is_known : (mode : ℕ) → is_matrix_mode mode ≡ true → Contains matrix_modes mode
unfolding is_matrix_mode
mode_is_known mode h = Contains-from_any {eq = λ q known. eqb known q} (λ x y same. sym (eqb-true y x same)) mode matrix_modes h

depth_is_few : (mosts depths : List ℕ) (at : ℕ) → AreDepths mosts depths → slice_index_or depths at 0 ≤ slice_index_or mosts at 0
depth_is_few [] [] at each = omega arith
depth_is_few (most ∷ mosts) (depth ∷ depths) zero each = each.0.few
depth_is_few (most ∷ mosts) (depth ∷ depths) (suc at) each = depth_is_few mosts depths at (each.1)
depth_is_few [] (depth ∷ depths) at each = absurd each
depth_is_few (most ∷ mosts) [] at each = absurd each

depths_with : (mosts depths : List ℕ) (at depth : ℕ) → AreDepths mosts depths → IsDepth (slice_index_or mosts at 0) depth → AreDepths mosts (slice_set depths at depth)
depths_with [] [] at depth each is = tt
depths_with (most ∷ mosts) (old ∷ depths) zero depth each is = (is, each.1)
depths_with (most ∷ mosts) (old ∷ depths) (suc at) depth each is = (each.0, depths_with mosts depths at depth (each.1) is)
depths_with [] (old ∷ depths) at depth each is = absurd each
depths_with (most ∷ mosts) [] at depth each is = absurd each

pub current_depth-few : (tracked : Tracked) → IsSound tracked → current_depth tracked ≤ current_most tracked
unfolding current_depth current_most
current_depth-few tracked sound = depth_is_few most_depths tracked.depths (current_stack tracked) sound.depths

-- with a depth that the current stack may have, depths stay within their bounds
pub with_depth-depths : (tracked : Tracked) (depth : ℕ) → IsDepth (current_most tracked) depth → IsSound tracked → AreDepths most_depths (with_depth tracked depth).depths
unfolding with_depth current_most
with_depth-depths tracked depth is sound = depths_with most_depths tracked.depths (current_stack tracked) depth sound.depths is
