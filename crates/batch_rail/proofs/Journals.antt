-- What is told of batches after two steps, and within a room.
use Rattle.std.proofs.Common.{◌≡◌, ℕ, ◌+◌, List, [], ◌∷◌, ◌++◌, Option, Some, None, true, false, cond, nat_le, refl, ap, sym, subst, ◌∙◌, arith}
use Rattle.std.proofs.lemmas.List.{append-nil, append_assoc}
use Rattle.std.proofs.lemmas.List.Sums.{sum_by_push}
use Rattle.std.proofs.lemmas.Bool.Decides.{nat_tests}
use Rattle.batch_pack.specs.Spelling.{Spelled}
use Rattle.batch_pack.specs.Batch.{slots_used}
use Rattle.batch_rail.specs.Rail.{Gains}
use Rattle.batch_rail.specs.Journal.{slots_in, told_within, told_with}

-- what is told stays told
pub Gains-none : (told : Option (List (List Spelled))) (more : List (List Spelled)) → more ≡ [] → Gains told told more
Gains-none told more none now is = (now, is, sym (append-nil now) ∙ ap (λ (x : List (List Spelled)). now ++ x) (sym none))

-- the same batches, said in two ways
pub Gains-along : (old new : Option (List (List Spelled))) (one other : List (List Spelled)) → one ≡ other → Gains old new one → Gains old new other
Gains-along old new one other same gained = subst (λ (more : List (List Spelled)). Gains old new more) same gained

-- what is gained in two steps is gained in both together
pub Gains-then : (old mid new : Option (List (List Spelled))) (first second : List (List Spelled)) → Gains old mid first → Gains mid new second → Gains old new (first ++ second)
Gains-then old mid new first second gained later now is =
    let l = later now is in
    let g = gained (l.0) (l.1) in
    (g.0, g.1, l.2 ∙ ap (λ (x : List (List Spelled)). x ++ second) (g.2) ∙ append_assoc (g.0) first second)

-- one batch more has its slots
pub slots_in-push : (batches : List (List Spelled)) (batch : List Spelled) → slots_in (batches ++ batch ∷ []) ≡ slots_in batches + slots_used batch
unfolding slots_in
slots_in-push batches batch = sum_by_push slots_used batches batch

-- what is told are the batches themselves
told_within-some : (room : ℕ) (batches now : List (List Spelled)) → told_within room batches ≡ Some now → now ≡ batches
unfolding told_within
told_within-some room batches now is =
    elim (nat_le (slots_in batches) room) as (λ t. cond t (Some batches) None ≡ Some now → now ≡ batches) [ true ↦ λ same. (cc) | false ↦ λ none. (cc) ] is

-- what is told with a batch has gained it
pub Gains-told_with : (room : ℕ) (old new : Option (List (List Spelled))) (batch : List Spelled) → new ≡ told_with room old batch → Gains old new (batch ∷ [])
Gains-told_with room None new batch told now is = absurd (cc)
Gains-told_with room (Some batches) new batch told now is = (batches, refl, told_within-some room (batches ++ batch ∷ []) now (sym told ∙ is))

-- at first no batches are told
pub told_within-nil : (room : ℕ) → told_within room [] ≡ Some []
unfolding told_within slots_in
told_within-nil room = grind (arith, nat_tests)

-- so batches that were submitted one after another are told exactly while all of them together fit
pub told_with-told_within : (room : ℕ) (batches : List (List Spelled)) (batch : List Spelled) → told_with room (told_within room batches) batch ≡ told_within room (batches ++ batch ∷ [])
unfolding told_within
told_with-told_within room batches batch =
    let more = slots_in-push batches batch in
    elim (nat_le (slots_in batches) room) as (λ t. nat_le (slots_in batches) room ≡ t → told_with room (cond t (Some batches) None) batch ≡ told_within room (batches ++ batch ∷ [])) [
      | true ↦ λ fits. refl
      | false ↦ λ past. grind (arith, nat_tests)
    ] refl
