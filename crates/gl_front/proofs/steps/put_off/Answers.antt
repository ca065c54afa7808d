use Rattle.std.proofs.Common.{◌≡◌, true, false, [], ◌∷◌, ◌++◌, List, ap, subst, ◌∙◌}
use Rattle.batch_pack.specs.Spelling.{Spelled}
use Rattle.batch_pack.specs.Batch.{BatchView, captured}
use Rattle.client_shadow.specs.Flush.{is_flush}
use Rattle.batch_rail.specs.Run.{RunsFrom}
use Rattle.batch_rail.proofs.Runs.{starts_from_nil}
use Rattle.batch_rail.proofs.Journals.{Gains-along, Gains-then}
use Rattle.gl_front.specs.FrontState.{open_calls}
use Rattle.gl_front.proofs.Captures.{batch_calls}
use Rattle.gl_front.proofs.Cuttings.{ended_by-sends, ended_by-stays}
use Rattle.gl_front.proofs.Fronts.{runs_on}
use Rattle.gl_front.proofs.steps.put_off.Goals as goal

pub returns-clause-stands : goal.returns-clause-stands
returns-clause-stands g c =
    λ st2 runs.
    let packed = ap (λ (b : BatchView). b.calls) c.pack.ensures ∙ ap (λ (l : List Spelled). l ++ (captured c.args.call.now c.args.pieces.now c.args.memory.now) ∷ []) (batch_calls c.make_room-before.new.open_batch c.in-Some.batch c.in-Some.is) in
    runs_on g.D.Machine.steps (g.R.RailState.stands c.args.rail.now) (g.R.RailState.stands c.make_room-before.new.rail) (open_calls c.args.open_batch.now) (open_calls c.make_room-before.new.open_batch) (captured c.args.call.now c.args.pieces.now c.args.memory.now) c.make_room-before.ensures.stands st2
    (subst (λ (l : List Spelled). RunsFrom (g.R.RailState.stands c.make_room-before.new.rail) g.D.Machine.steps l st2) packed runs)

pub returns-then-sends_batch-clause-stands : goal.returns-then-sends_batch-clause-stands
returns-then-sends_batch-clause-stands g c =
    λ st2 runs.
    let packed = ap (λ (b : BatchView). b.calls) c.pack.ensures ∙ ap (λ (l : List Spelled). l ++ (captured c.args.call.now c.args.pieces.now c.args.memory.now) ∷ []) (batch_calls c.make_room-before.new.open_batch c.in-Some.batch c.in-Some.is) in
    let started = starts_from_nil g.D.Machine.steps (g.R.RailState.stands c.submit_open.new.rail) st2 (subst (λ (l : List Spelled). RunsFrom (g.R.RailState.stands c.submit_open.new.rail) g.D.Machine.steps l st2) c.submit_open.ensures.empty runs) in
    runs_on g.D.Machine.steps (g.R.RailState.stands c.args.rail.now) (g.R.RailState.stands c.make_room-before.new.rail) (open_calls c.args.open_batch.now) (open_calls c.make_room-before.new.open_batch) (captured c.args.call.now c.args.pieces.now c.args.memory.now) c.make_room-before.ensures.stands st2
    (subst (λ (l : List Spelled). RunsFrom (g.R.RailState.stands c.make_room-before.new.rail) g.D.Machine.steps l st2) packed (c.submit_open.ensures.stands st2 started))

pub returns-clause-journal : goal.returns-clause-journal
returns-clause-journal g c =
    let flush : is_flush c.args.call.now ≡ false = cc in
    Gains-along _ _ _ _ (ended_by-stays (g.R.RailState.size c.args.rail.now) (open_calls c.args.open_batch.now) (captured c.args.call.now c.args.pieces.now c.args.memory.now) flush) (c.make_room-before.ensures.journal (captured c.args.call.now c.args.pieces.now c.args.memory.now) c.requires.heading.slots)

pub returns-then-sends_batch-clause-journal : goal.returns-then-sends_batch-clause-journal
returns-then-sends_batch-clause-journal g c =
    let packed = ap (λ (b : BatchView). b.calls) c.pack.ensures ∙ ap (λ (l : List Spelled). l ++ (captured c.args.call.now c.args.pieces.now c.args.memory.now) ∷ []) (batch_calls c.make_room-before.new.open_batch c.in-Some.batch c.in-Some.is) in
    let flush : is_flush c.args.call.now ≡ true = cc in
    let behind = packed ∙ ap (λ (l : List Spelled). l ++ (captured c.args.call.now c.args.pieces.now c.args.memory.now) ∷ []) (c.make_room-before.ensures.calls (captured c.args.call.now c.args.pieces.now c.args.memory.now) c.requires.heading.slots) in
    Gains-along _ _ _ _ (ended_by-sends (g.R.RailState.size c.args.rail.now) (open_calls c.args.open_batch.now) (captured c.args.call.now c.args.pieces.now c.args.memory.now) flush c.pack.new.self.calls behind) (Gains-then _ _ _ _ _ (c.make_room-before.ensures.journal (captured c.args.call.now c.args.pieces.now c.args.memory.now) c.requires.heading.slots) c.submit_open.ensures.journal)
