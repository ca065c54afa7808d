use Rattle.std.proofs.Common.{◌∙◌, ap, refl, subst, sym, Option}
use Rattle.std.specs.Prelude.{is_some}
use Rattle.std.proofs.lemmas.Result.{on_ok_weaker, on_err_weaker}
use Rattle.driver_trait.specs.declared.reply.Reply.{Reply}
use Rattle.driver_trait.specs.Reply.{Nothing, replied}
use Rattle.gl_front.specs.Given.{given_by}
use Rattle.gl_front.specs.Taking.{TakesCall}
use Rattle.replay_lines.proofs.RunLemmas.{OnErr-always, added_or_not, nothing_told, RunsOn-mem, RunsOn-image, RunsOn-call, StopsOn-still, StopsOn-refused, StopsOn-untold}
use Rattle.replay_lines.proofs.lines.run_line.Goals as goal

pub returns-in-Mem-clause-ok : goal.returns-in-Mem-clause-ok
returns-in-Mem-clause-ok g c =
    RunsOn-mem g.D.Machine.tracked g.D.Machine.steps g.R.RailState.stands g.R.RailState.journal c.args.line.now
    c.in-Mem.at c.from.result c.in-Mem.bytes c.as_slice.result.now c.args.front.now c.write_memory.new.self c.args.results.now
    c.in-Mem.is c.from.ensures c.as_slice.ensures c.write_memory.ensures

pub returns-in_err-what-in-Image-clause-stopped : goal.returns-in_err-what-in-Image-clause-stopped
returns-in_err-what-in-Image-clause-stopped g c =
    OnErr-always c.from_residual.result
    (StopsOn-still g.D.Machine.tracked g.D.Machine.steps g.R.RailState.stands g.R.RailState.failed g.R.RailState.journal g.R.RailState.sent c.args.line.now c.args.front.now c.args.results.now c.args.results.now refl)

pub returns-in_err-reply-in-Gl-clause-stopped : goal.returns-in_err-reply-in-Gl-clause-stopped
returns-in_err-reply-in-Gl-clause-stopped g c =
    let refused = c.in_err-reply-in-Gl.ensures in
    OnErr-always c.from_residual-in_err-reply-in-Gl.result
    (StopsOn-refused g.D.Machine.tracked g.D.Machine.steps g.R.RailState.stands g.R.RailState.failed g.R.RailState.journal g.R.RailState.sent c.args.line.now c.args.front.now c.issue_by.new.self c.args.results.now
    c.in-Gl.call c.in-Gl.is refused.err (λ is. (refused.idle is).1))

pub returns-in_ok-what-in-Image-clause-ok : goal.returns-in_ok-what-in-Image-clause-ok
returns-in_ok-what-in-Image-clause-ok g c =
    on_ok_weaker c.push.result
    (RunsOn-image g.D.Machine.tracked g.D.Machine.steps g.R.RailState.stands g.R.RailState.journal c.args.line.now
    c.in-Image.name c.in-Image.width c.in-Image.height c.in-Image.at c.memory.result.now _ c.args.front.now c.args.results.now c.push.new.self
    c.in-Image.is c.memory.ensures c.in_ok-what-in-Image.ensures)
    c.push.ensures.ok

pub returns-in_ok-what-in-Image-clause-stopped : goal.returns-in_ok-what-in-Image-clause-stopped
returns-in_ok-what-in-Image-clause-stopped g c =
    on_err_weaker c.push.result
    (StopsOn-still g.D.Machine.tracked g.D.Machine.steps g.R.RailState.stands g.R.RailState.failed g.R.RailState.journal g.R.RailState.sent c.args.line.now c.args.front.now c.args.results.now c.push.new.self)
    c.push.ensures.err

pub returns-in_ok-what-in-Image-clause-kept : goal.returns-in_ok-what-in-Image-clause-kept
returns-in_ok-what-in-Image-clause-kept g c = added_or_not c.push.result c.args.results.now c.push.new.self _ c.push.ensures.ok c.push.ensures.err

pub returns-in-Some-clause-ok : goal.returns-in-Some-clause-ok
returns-in-Some-clause-ok g c =
    on_ok_weaker c.answer.result
    (RunsOn-call g.D.Machine.tracked g.D.Machine.steps g.R.RailState.stands g.R.RailState.journal g.R.RailState.failed g.R.RailState.sent c.args.line.now
    c.in-Gl.call (replied c.in-Some.reply) c.args.front.now c.issue_by.new.self c.args.results.now c.answer.new.self
    c.in-Gl.is c.knows_tracked.ensures (subst (λ (given : Option Reply). TakesCall g.R.RailState.stands g.R.RailState.failed g.R.RailState.journal g.R.RailState.sent g.D.Machine.steps c.args.front.now c.issue_by.new.self c.in-Gl.call (given_by given)) c.in-Some.is c.in_ok-reply-in-Gl.ensures.ok))
    c.answer.ensures.ok

pub returns-in-Some-clause-stopped : goal.returns-in-Some-clause-stopped
returns-in-Some-clause-stopped g c =
    let issued = c.in_ok-reply-in-Gl.ensures in
    on_err_weaker c.answer.result
    (StopsOn-untold g.D.Machine.tracked g.D.Machine.steps g.R.RailState.stands g.R.RailState.failed g.R.RailState.journal g.R.RailState.sent c.args.line.now
    c.in-Gl.call (replied c.in-Some.reply) c.args.front.now c.issue_by.new.self c.args.results.now c.answer.new.self
    c.in-Gl.is c.knows_tracked.ensures (subst (λ (given : Option Reply). TakesCall g.R.RailState.stands g.R.RailState.failed g.R.RailState.journal g.R.RailState.sent g.D.Machine.steps c.args.front.now c.issue_by.new.self c.in-Gl.call (given_by given)) c.in-Some.is issued.ok) (sym issued.asked ∙ ap is_some c.in-Some.is))
    c.answer.ensures.err

pub returns-in-None-clause-ok : goal.returns-in-None-clause-ok
returns-in-None-clause-ok g c =
    let issued = c.in_ok-reply-in-Gl.ensures in
    RunsOn-call g.D.Machine.tracked g.D.Machine.steps g.R.RailState.stands g.R.RailState.journal g.R.RailState.failed g.R.RailState.sent c.args.line.now
    c.in-Gl.call Nothing c.args.front.now c.issue_by.new.self c.args.results.now c.args.results.now
    c.in-Gl.is c.knows_tracked.ensures (subst (λ (given : Option Reply). TakesCall g.R.RailState.stands g.R.RailState.failed g.R.RailState.journal g.R.RailState.sent g.D.Machine.steps c.args.front.now c.issue_by.new.self c.in-Gl.call (given_by given)) c.in-None.is issued.ok)
    (nothing_told c.args.line.now.number c.args.line.now.context c.in-Gl.call Nothing c.args.results.now (sym issued.asked ∙ ap is_some c.in-None.is))
