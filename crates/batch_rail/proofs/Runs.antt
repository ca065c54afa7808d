-- Runs over lists that are put together, and the states that they lead to.
use Rattle.std.proofs.Common.{◌≡◌, List, [], ◌∷◌, ◌++◌, refl, sym, subst}
use Rattle.batch_pack.specs.Spelling.{Spelled}
use Rattle.driver_trait.specs.Driver.{Steps}
use Rattle.driver_trait.specs.Reply.{Replied}
use Rattle.batch_rail.specs.Run.{Run, RunsFrom}

module _ {S : Type 0} (steps : Steps S) where
  -- a run by some calls and one by more are a run by all of them
  pub Run-append : (start : S) (calls more : List Spelled) (mid st2 : S) → Run steps start calls mid → Run steps mid more st2 → Run steps start (calls ++ more) st2
  Run-append start [] more mid st2 first second = subst (λ (st : S). Run steps st more st2) first second
  Run-append start (call ∷ calls) more mid st2 first second =
      (first.0, first.1, first.2, Run-append (first.0) calls more mid st2 (first.3) second)

  -- the last call of a run leads from a state to which the others lead
  pub Run-last : (start : S) (calls : List Spelled) (call : Spelled) (st2 : S) → Run steps start (calls ++ call ∷ []) st2 → (mid : S) × (reply : Replied) × Run steps start calls mid × steps mid call.call call.segments st2 reply
  Run-last start [] call st2 run =
      (start, run.1, refl, subst (λ (st : S). steps start call.call call.segments st (run.1)) (sym (run.3)) (run.2))
  Run-last start (first ∷ calls) call st2 run =
      let later = Run-last (run.0) calls call st2 (run.3) in
      (later.0, later.1, (run.0, run.1, run.2, later.2), later.3)

  -- without calls a state leads to itself alone
  pub RunsFrom-nil : (starts : S → Type 0) (st2 : S) → starts st2 → RunsFrom starts steps [] st2
  RunsFrom-nil starts st2 may_start = record { start = st2; may_start = may_start; run = refl }

  pub RunsFrom-from_nil : (starts : S → Type 0) (calls : List Spelled) (st2 : S) → calls ≡ [] → starts st2 → RunsFrom starts steps calls st2
  RunsFrom-from_nil starts calls st2 none may_start =
      subst (λ (l : List Spelled). RunsFrom starts steps l st2) (sym none) (RunsFrom-nil starts st2 may_start)

  pub starts_from_nil : (starts : S → Type 0) (st2 : S) → RunsFrom starts steps [] st2 → starts st2
  starts_from_nil starts st2 runs = subst starts (sym runs.run) runs.may_start

  -- where new states are reached by some calls from old ones, more calls from them are all these calls from the old ones
  pub RunsFrom-append : (old new : S → Type 0) (calls more : List Spelled) (st2 : S)
      → ((st : S) → new st → RunsFrom old steps calls st)
      → RunsFrom new steps more st2 → RunsFrom old steps (calls ++ more) st2
  RunsFrom-append old new calls more st2 leads runs =
      let before = leads runs.start runs.may_start in record {
        start = before.start;
        may_start = before.may_start;
        run = Run-append before.start calls more runs.start st2 before.run runs.run;
      }

  -- the last call leads from a state to which the others lead
  pub RunsFrom-last : (starts : S → Type 0) (calls : List Spelled) (call : Spelled) (st2 : S) → RunsFrom starts steps (calls ++ call ∷ []) st2
      → (st : S) × (reply : Replied) × RunsFrom starts steps calls st × steps st call.call call.segments st2 reply
  RunsFrom-last starts calls call st2 runs =
      let last = Run-last runs.start calls call st2 runs.run in
      (last.0, last.1, record { start = runs.start; may_start = runs.may_start; run = last.2 }, last.3)
