use Rattle.std.proofs.Common.{List, length, ap, sym, ◌∙◌, arith}
use Rattle.batch_pack.specs.Spelling.{Spelled}
use Rattle.batch_pack.specs.Batch.{slots_left}
use Rattle.client_shadow.proofs.Batching.{cut_before-fits, joined-fits, joined-full, slots_left-empty}
use Rattle.batch_rail.proofs.Journals.{Gains-none, Gains-along}
use Rattle.gl_front.specs.FrontState.{open_calls}
use Rattle.gl_front.proofs.Captures.{batch_calls, fits_held, full_held, cut_before-held}
use Rattle.gl_front.proofs.Failures.{FailsOnlyBy-along}
use Rattle.gl_front.proofs.steps.make_room.Goals as goal

pub returns-then-slots-from-clause-calls : goal.returns-then-slots-from-clause-calls
returns-then-slots-from-clause-calls g c =
    λ call is.
    let fits = fits_held c.args.open_batch.now c.in-Some.batch c.in-Some.is (g.R.RailState.size c.args.rail.now) c.requires.ready.is_there c.args.slots call is (omega arith) in
    batch_calls c.args.open_batch.now c.in-Some.batch c.in-Some.is ∙ sym (joined-fits (g.R.RailState.size c.args.rail.now) (open_calls c.args.open_batch.now) call fits)

pub returns-then-slots-from-clause-count : goal.returns-then-slots-from-clause-count
returns-then-slots-from-clause-count g c =
    λ call is.
    let fits = fits_held c.args.open_batch.now c.in-Some.batch c.in-Some.is (g.R.RailState.size c.args.rail.now) c.requires.ready.is_there c.args.slots call is (omega arith) in
    ap length (sym (cut_before-fits (g.R.RailState.size c.args.rail.now) (open_calls c.args.open_batch.now) call fits))

pub returns-then-slots-from-clause-journal : goal.returns-then-slots-from-clause-journal
returns-then-slots-from-clause-journal g c =
    λ call is.
    let fits = fits_held c.args.open_batch.now c.in-Some.batch c.in-Some.is (g.R.RailState.size c.args.rail.now) c.requires.ready.is_there c.args.slots call is (omega arith) in
    Gains-none _ _ (cut_before-fits (g.R.RailState.size c.args.rail.now) (open_calls c.args.open_batch.now) call fits)

pub returns-clause-fits : goal.returns-clause-fits
returns-clause-fits g c =
    let emptied = ap (λ (l : List Spelled). slots_left (record { size = g.R.RailState.size c.submit_open.new.rail; calls = l })) c.submit_open.ensures.empty in
    omega (arith, emptied, slots_left-empty (g.R.RailState.size c.submit_open.new.rail), c.submit_open.ensures.rail_size, c.requires.fits)

pub returns-clause-kept : goal.returns-clause-kept
returns-clause-kept g c =
    λ call is none.
    let ends = cut_before-held c.args.open_batch.now c.in-Some.batch c.in-Some.is (g.R.RailState.size c.args.rail.now) c.requires.ready.is_there c.args.slots call is (omega arith) in
    c.submit_open.ensures.kept (ends ∙ none)

pub returns-clause-failed : goal.returns-clause-failed
returns-clause-failed g c =
    λ call is.
    let ends = cut_before-held c.args.open_batch.now c.in-Some.batch c.in-Some.is (g.R.RailState.size c.args.rail.now) c.requires.ready.is_there c.args.slots call is (omega arith) in
    FailsOnlyBy-along _ _ _ _ ends c.submit_open.ensures.failed

pub returns-clause-calls : goal.returns-clause-calls
returns-clause-calls g c =
    λ call is.
    let full = full_held c.args.open_batch.now c.in-Some.batch c.in-Some.is (g.R.RailState.size c.args.rail.now) c.requires.ready.is_there c.args.slots call is (omega arith) in
    c.submit_open.ensures.empty ∙ sym (joined-full (g.R.RailState.size c.args.rail.now) (open_calls c.args.open_batch.now) call full)

pub returns-clause-count : goal.returns-clause-count
returns-clause-count g c =
    λ call is.
    let ends = cut_before-held c.args.open_batch.now c.in-Some.batch c.in-Some.is (g.R.RailState.size c.args.rail.now) c.requires.ready.is_there c.args.slots call is (omega arith) in
    c.submit_open.ensures.count ∙ ap length ends

pub returns-clause-journal : goal.returns-clause-journal
returns-clause-journal g c =
    λ call is.
    let ends = cut_before-held c.args.open_batch.now c.in-Some.batch c.in-Some.is (g.R.RailState.size c.args.rail.now) c.requires.ready.is_there c.args.slots call is (omega arith) in
    Gains-along _ _ _ _ ends c.submit_open.ensures.journal
