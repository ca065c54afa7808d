-- Sizes of the batches that go through a ring.
use Rattle.std.proofs.Common.{◌≡◌, ℕ, ◌<◌, Result, Ok, Err, IfOk, OnOk, IfErr, OnErr, IsOk, List, [], ◌∷◌, ◌++◌, length, refl, sym, ap, ap₂, subst, ◌∙◌, arith, append-nil}
use Rattle.std.proofs.lemmas.List.{append_assoc}
use mathlib.Core.List.{IsPrefix}
use Rattle.batch_pack.specs.Batch.{BatchView, empty_batch}
use Rattle.batch_pack.specs.Spelling.{Spelled}
use Rattle.epoch_rail.specs.Rings.{first_size, HasFirstSize, MayBegin, Begins}

-- a batch that came behind others has the size of the first of those that were there and were seen
pub size-popped : (size : ℕ) (before known after : List BatchView) (batch : BatchView) → Begins size (before ++ known) → IsPrefix known (batch ∷ after) → HasFirstSize before batch → batch.size ≡ size
unfolding first_size
size-popped size [] [] after batch begins prefix allowed = absurd (omega (arith, begins.some))
size-popped size [] (first ∷ known) after batch begins (rest, whole) allowed = let same : first ≡ batch = cc in ap (λ (b : BatchView). b.size) (sym same) ∙ begins.first
size-popped size (first ∷ before) known after batch begins prefix allowed = sym allowed ∙ begins.first

-- so has one that was seen
pub size-seen : (size : ℕ) (before known after : List BatchView) (batch : BatchView) → Begins size (before ++ known) → known ≡ batch ∷ after → HasFirstSize before batch → batch.size ≡ size
size-seen size before known after batch begins seen allowed = size-popped size before known after batch begins ([], append-nil known ∙ seen) allowed

-- and what was received with what is seen still begins with that size
pub Begins-popped : (size : ℕ) (before after : List BatchView) (batch : BatchView) → MayBegin size before → batch.size ≡ size → Begins size ((before ++ batch ∷ []) ++ after)
unfolding first_size
Begins-popped size [] after batch may is = record { some = omega arith; first = is }
Begins-popped size (first ∷ before) after batch may is = record { some = omega arith; first = may }

-- what was received begins with that size, if it begins
pub MayBegin-front : (size : ℕ) (before known : List BatchView) → Begins size (before ++ known) → MayBegin size before
unfolding first_size
MayBegin-front size [] known begins = refl
MayBegin-front size (first ∷ before) known begins = begins.first

-- a batch of that size may go behind others
pub HasFirstSize-of : (size : ℕ) (before : List BatchView) (batch : BatchView) → MayBegin size before → batch.size ≡ size → HasFirstSize before batch
unfolding first_size
HasFirstSize-of size [] batch may is = refl
HasFirstSize-of size (first ∷ before) batch may is = may ∙ sym is

-- and then they still begin with it
pub MayBegin-push : (size : ℕ) (before : List BatchView) (batch : BatchView) → MayBegin size before → batch.size ≡ size → MayBegin size (before ++ batch ∷ [])
unfolding first_size
MayBegin-push size [] batch may is = is
MayBegin-push size (first ∷ before) batch may is = may

-- after a look for the next batch, what was received with what is seen begins as before
pub Begins-pop : {E : Type 0} (Q : BatchView → Type 0) (size : ℕ) (before known later after : List BatchView) (result : Result BatchView E) → ((batch : BatchView) → Q batch → HasFirstSize before batch)
    → Begins size (before ++ known) → IfOk result (λ (batch : BatchView). (later ≡ before ++ batch ∷ []) × IsPrefix known (batch ∷ after) × Q batch)
    → OnErr result ((later ≡ before) × (after ≡ [])) → (0 < length known → IsOk result) → Begins size (later ++ after)
Begins-pop Q size before known later after (Ok batch) first begins ok err succeeds =
    let is = size-popped size before known after batch begins (ok.1) (first batch (ok.2)) in
    subst (λ (l : List BatchView). Begins size (l ++ after)) (sym (ok.0)) (Begins-popped size before after batch (MayBegin-front size before known begins) is)
Begins-pop Q size before [] later after (Err fault) first begins ok err succeeds =
    subst (λ (l : List BatchView). Begins size (l ++ after)) (sym (err.0)) (subst (λ (l : List BatchView). Begins size (before ++ l)) (sym (err.1)) begins)
Begins-pop Q size before (item ∷ known) later after (Err fault) first begins ok err succeeds = let wrong = succeeds (omega arith) in absurd (cc)

-- after one that was seen was received, they are the same
pub append-next : (before known after later : List BatchView) (batch : BatchView) → later ≡ before ++ batch ∷ [] → known ≡ batch ∷ after → later ++ after ≡ before ++ known
append-next before known after later batch took seen =
    ap (λ (l : List BatchView). l ++ after) took ∙ append_assoc before (batch ∷ []) after ∙ ap (λ (l : List BatchView). before ++ l) (sym seen)

-- batches that begin so begin so with more behind them
pub Begins-more : (size : ℕ) (before known more : List BatchView) → Begins size (before ++ known) → IsPrefix known more → Begins size (before ++ more)
unfolding first_size
Begins-more size [] [] more begins prefix = absurd (omega (arith, begins.some))
Begins-more size [] (first ∷ known) more begins (rest, whole) = subst (Begins size) whole (record { some = omega arith; first = begins.first })
Begins-more size (first ∷ before) known more begins prefix = record { some = omega arith; first = begins.first }

-- a batch of this size without calls
pub empty_batch-of : (size : ℕ) (batch : BatchView) → batch.size ≡ size → batch.calls ≡ [] → batch ≡ empty_batch size
empty_batch-of size batch is none = ap₂ (λ (s : ℕ) (c : List Spelled). record { size = s; calls = c }) is none

-- what was given may begin as before, whether or not there was room
pub MayBegin-pushed : {E : Type 0} (K : Type 0) (R F : E → Type 0) (size : ℕ) (before after : List BatchView) (batch : BatchView) (result : Result Unit E) → MayBegin size before → batch.size ≡ size
    → OnOk result ((after ≡ before ++ batch ∷ []) × K) → IfErr result (λ (e : E). R e × (after ≡ before) × F e) → MayBegin size after
MayBegin-pushed K R F size before after batch (Ok done) may is ok err = subst (MayBegin size) (sym (ok.0)) (MayBegin-push size before batch may is)
MayBegin-pushed K R F size before after batch (Err fault) may is ok err = subst (MayBegin size) (sym (err.1)) may
