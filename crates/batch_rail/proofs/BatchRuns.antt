-- Runs over the first batches of a list: one batch more, and batches behind them.
use Rattle.std.proofs.Common.{◌≡◌, ℕ, zero, suc, ◌+◌, ◌<◌, ◌≤◌, List, [], ◌∷◌, ◌++◌, length, Some, refl, sym, subst, ◌∙◌, arith}
use Rattle.std.specs.List.{slice_get}
use Rattle.batch_pack.specs.Spelling.{Spelled}
use Rattle.driver_trait.specs.Driver.{Steps}
use Rattle.batch_rail.specs.Run.{Run, RunFirst}

-- a batch stands where it stood, whatever comes behind
slice_get-append : (batches more : List (List Spelled)) (at : ℕ) (batch : List Spelled) → slice_get batches at ≡ Some batch → slice_get (batches ++ more) at ≡ Some batch
slice_get-append [] more at batch stands = absurd (cc)
slice_get-append (first ∷ batches) more zero batch stands = stands
slice_get-append (first ∷ batches) more (suc at) batch stands = slice_get-append batches more at batch stands

-- and stood there before anything came behind
slice_get-before : (batches more : List (List Spelled)) (at : ℕ) (batch : List Spelled) → at < length batches → slice_get (batches ++ more) at ≡ Some batch → slice_get batches at ≡ Some batch
slice_get-before [] more at batch within stands = absurd (omega arith)
slice_get-before (first ∷ batches) more zero batch within stands = stands
slice_get-before (first ∷ batches) more (suc at) batch within stands = slice_get-before batches more at batch (omega arith) stands

-- the batch behind others
slice_get-seam : (batches : List (List Spelled)) (batch : List Spelled) → slice_get (batches ++ batch ∷ []) (length batches) ≡ Some batch
slice_get-seam [] batch = refl
slice_get-seam (first ∷ batches) batch = slice_get-seam batches batch

module _ {S : Type 0} (steps : Steps S) (start : S) where
  -- one batch more
  pub RunFirst-next : (batches : List (List Spelled)) (count : ℕ) (mid : S) (batch : List Spelled) (st2 : S)
      → RunFirst steps start batches count mid → slice_get batches count ≡ Some batch → Run steps mid batch st2 → RunFirst steps start batches (count + 1) st2
  RunFirst-next batches count mid batch st2 first stands run =
      let one_more : suc count ≡ count + 1 = omega arith in
      subst (λ (n : ℕ). RunFirst steps start batches n st2) one_more (mid, batch, first, stands, run)

  -- batches that come behind change nothing
  pub RunFirst-more : (batches more : List (List Spelled)) (count : ℕ) (st2 : S) → RunFirst steps start batches count st2 → RunFirst steps start (batches ++ more) count st2
  RunFirst-more batches more zero st2 first = first
  RunFirst-more batches more (suc count) st2 (mid, batch, first, stands, run) =
      (mid, batch, RunFirst-more batches more count mid first, slice_get-append batches more count batch stands, run)

  -- nor do they where they are left out
  pub RunFirst-before : (batches more : List (List Spelled)) (count : ℕ) (st2 : S) → count ≤ length batches → RunFirst steps start (batches ++ more) count st2 → RunFirst steps start batches count st2
  RunFirst-before batches more zero st2 within first = first
  RunFirst-before batches more (suc count) st2 within (mid, batch, first, stands, run) =
      (mid, batch, RunFirst-before batches more count mid (omega arith) first, slice_get-before batches more count batch (omega arith) stands, run)

  -- the last of some batches leads from a state to which the others lead
  pub RunFirst-last : (batches : List (List Spelled)) (batch : List Spelled) (st2 : S) → RunFirst steps start (batches ++ batch ∷ []) (length batches + 1) st2
      → (mid : S) × RunFirst steps start batches (length batches) mid × Run steps mid batch st2
  RunFirst-last batches batch st2 first =
      let one_more : length batches + 1 ≡ suc (length batches) = omega arith in
      let run = subst (λ (n : ℕ). RunFirst steps start (batches ++ batch ∷ []) n st2) one_more first in
      let both : Some batch ≡ Some run.1 = sym (slice_get-seam batches batch) ∙ run.3 in
      let same : batch ≡ run.1 = (cc) in
      (run.0, RunFirst-before batches (batch ∷ []) (length batches) run.0 (omega arith) run.2, subst (λ (calls : List Spelled). Run steps run.0 calls st2) (sym same) run.4)
