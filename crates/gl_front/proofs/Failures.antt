-- By which batches a rail may have failed, said in two ways.
use Rattle.std.proofs.Common.{◌≡◌, List, subst}
use Rattle.batch_pack.specs.Spelling.{Spelled}
use Rattle.gl_front.specs.Front.{FailsOnlyBy}

-- the same batches, said in two ways
pub FailsOnlyBy-along : (old new : Type 0) (one other : List (List Spelled)) → one ≡ other → FailsOnlyBy old new one → FailsOnlyBy old new other
FailsOnlyBy-along old new one other same fails = subst (λ (batches : List (List Spelled)). FailsOnlyBy old new batches) same fails
