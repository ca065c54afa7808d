use Rattle.std.proofs.Common.{[], ◌∷◌, List, length, ap, sym, ◌∙◌, arith}
use Rattle.batch_pack.specs.Spelling.{Spelled}
use Rattle.client_shadow.specs.Cutting.{batch_unless_empty}
use Rattle.batch_rail.proofs.Runs.{RunsFrom-from_nil}
use Rattle.batch_rail.proofs.Journals.{Gains-none, Gains-along}
use Rattle.gl_front.specs.FrontState.{open_calls}
use Rattle.gl_front.proofs.Captures.{batch_calls, nil_held, some_held}
use Rattle.gl_front.proofs.Cuttings.{nil_from_slots}
use Rattle.gl_front.proofs.steps.submit_open.Goals as goal

pub returns-then-used-eq0-clause-empty : goal.returns-then-used-eq0-clause-empty
returns-then-used-eq0-clause-empty g c =
    nil_from_slots c.in-Some.batch.calls (sym c.used.ensures.used ∙ c.if-used-eq0.true)

pub returns-then-used-eq0-clause-count : goal.returns-then-used-eq0-clause-count
returns-then-used-eq0-clause-count g c =
    let none = nil_held c.args.open_batch.now c.in-Some.batch c.in-Some.is (sym c.used.ensures.used ∙ c.if-used-eq0.true) in
    ap (λ (calls : List Spelled). length (batch_unless_empty calls)) (sym none)

pub returns-then-used-eq0-clause-stands : goal.returns-then-used-eq0-clause-stands
returns-then-used-eq0-clause-stands g c =
    let none = nil_held c.args.open_batch.now c.in-Some.batch c.in-Some.is (sym c.used.ensures.used ∙ c.if-used-eq0.true) in
    λ st2. RunsFrom-from_nil g.D.Machine.steps (g.R.RailState.stands c.args.rail.now) (open_calls c.args.open_batch.now) st2 none

pub returns-then-used-eq0-clause-journal : goal.returns-then-used-eq0-clause-journal
returns-then-used-eq0-clause-journal g c =
    let none = nil_held c.args.open_batch.now c.in-Some.batch c.in-Some.is (sym c.used.ensures.used ∙ c.if-used-eq0.true) in
    Gains-none _ _ (ap batch_unless_empty none)

pub returns-clause-count : goal.returns-clause-count
returns-clause-count g c =
    let some = some_held c.args.open_batch.now c.in-Some.batch c.in-Some.is (omega (arith, c.used.ensures.used)) in
    ap length (sym some)

pub returns-clause-kept : goal.returns-clause-kept
returns-clause-kept g c =
    λ none.
    let some = some_held c.args.open_batch.now c.in-Some.batch c.in-Some.is (omega (arith, c.used.ensures.used)) in
    absurd (cc)

pub returns-clause-journal : goal.returns-clause-journal
returns-clause-journal g c =
    let some = some_held c.args.open_batch.now c.in-Some.batch c.in-Some.is (omega (arith, c.used.ensures.used)) in
    let taken = batch_calls c.args.open_batch.now c.in-Some-take.batch (c.in-Some.is ∙ sym c.take.ensures.value ∙ c.in-Some-take.is) in
    Gains-along _ _ _ _ (ap (λ (calls : List Spelled). calls ∷ []) taken ∙ sym some) c.submit.ensures.journal
