-- What the loop over a batch keeps.
use Rattle.std.proofs.Common.{◌≡◌, List, [], ◌∷◌, ◌++◌, refl, sym, subst, ◌∙◌, append_assoc}
use Rattle.batch_pack.specs.Spelling.{Spelled}
use Rattle.driver_trait.specs.Driver.{Steps}
use Rattle.driver_trait.specs.Reply.{Replied}
use Rattle.batch_rail.specs.Run.{Run, StopsInside}
use Rattle.batch_rail.proofs.Runs.{Run-append}

-- what the calls still to come do from here, the whole batch does from its start; an empty batch has none to come; and the calls before those led here
pub record IsRunning {S : Type 0} (steps : Steps S) (start : S) (calls : List Spelled) (here : S) (to_come : List Spelled) : Type 0 where
  pub leads : (st2 : S) → Run steps here to_come st2 → Run steps start calls st2
  pub none_new : calls ≡ [] → to_come ≡ []
  pub done : List Spelled
  pub whole : calls ≡ done ++ to_come
  pub run : Run steps start done here

module _ {S : Type 0} (steps : Steps S) (start : S) (calls : List Spelled) where
  -- before the first call
  pub begins : IsRunning steps start calls start calls
  begins = record { leads = λ st2 run. run; none_new = λ none. none; done = []; whole = refl; run = refl }

  -- one call further
  pub runs_on : (here next : S) (call : Spelled) (to_come : List Spelled) (reply : Replied) → IsRunning steps start calls here (call ∷ to_come) → steps here call.call call.segments next reply → IsRunning steps start calls next to_come
  runs_on here next call to_come reply running step = record {
    leads = λ st2 run. running.leads st2 (next, reply, step, run);
    none_new = λ none. let absent = running.none_new none in absurd (cc);
    done = running.done ++ call ∷ [];
    whole = running.whole ∙ sym (append_assoc running.done (call ∷ []) to_come);
    run = Run-append steps start running.done (call ∷ []) here next running.run (next, reply, step, refl);
  }

  -- the same, where the call was read from those to come
  pub runs_on_by : (here next : S) (old : List Spelled) (call : Spelled) (to_come : List Spelled) (reply : Replied) → old ≡ call ∷ to_come → IsRunning steps start calls here old → steps here call.call call.segments next reply → IsRunning steps start calls next to_come
  runs_on_by here next old call to_come reply read running step =
      runs_on here next call to_come reply (subst (λ (left : List Spelled). IsRunning steps start calls here left) read running) step

  -- where the next call is refused, the driver stays here
  pub stops : (here : S) (call : Spelled) (to_come : List Spelled) → IsRunning steps start calls here (call ∷ to_come) → StopsInside steps start calls here
  stops here call to_come running = record { done = running.done; refused = call; left_out = to_come; whole = running.whole; run = running.run }
