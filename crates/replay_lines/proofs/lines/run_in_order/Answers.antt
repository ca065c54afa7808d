use Rattle.std.proofs.Common.{◌≡◌, ◌+◌, ◌*◌, ◌<◌, length, List, [], ◌∷◌, ◌++◌, take, drop, refl, sym, ap, subst, ◌∙◌, append_assoc, arith}
use Rattle.std.proofs.lemmas.List.{append-nil, take_all}
use Rattle.gl_front.specs.Front.{FrontView}
use Rattle.script_reader.specs.declared.script.Line.{Line}
use Rattle.replay_lines.specs.Limits.{AllRiseBy}
use Rattle.replay_lines.specs.Lines.{lines_in}
use Rattle.replay_lines.specs.Running.{RunsOn, StopsOn}
use Rattle.replay_lines.specs.Results.{DoneView}
use Rattle.replay_lines.proofs.LinesLemmas.{lines_in-around, lines_in-its, lines_in-others}
use Rattle.replay_lines.proofs.Risings.{AllRiseBy-none, AllRiseBy-more, AllRiseBy-up_to}
use Rattle.replay_lines.proofs.RunLemmas.{OnErr-always, RunsOn-nil, RunsOn-then, StopsOn-before, StopsOn-then}
use Rattle.replay_lines.proofs.lines.run_in_order.Goals as goal
use Rattle.replay_lines.proofs.lines.run_in_order.Goals.{then-line-context+in_ok-run_line, else-line-context}

pub loop-line-init : goal.loop-line-init
loop-line-init g c = record {
  runs = RunsOn-nil g.D.Machine.tracked g.D.Machine.steps g.R.RailState.stands g.R.RailState.journal c.args.front.now c.args.results.now;
  kept = ([], sym (append-nil c.args.results.now));
  rises = AllRiseBy-none c.args.front.now.counts;
  sent = refl;
  same_size = refl;
}

pub loop-line-preserved : goal.loop-line-preserved
loop-line-preserved g c =
    let tracked = g.D.Machine.tracked in
    let steps = g.D.Machine.steps in
    let stands = g.R.RailState.stands in
    let journal = g.R.RailState.journal in
    let sent = g.R.RailState.sent in
    let context = c.args.context in
    let lines = c.args.lines.now in
    let i = c.loop-line.line-index in
    let line = c.line-item.result in
    let inside : i < length lines = c.loop-line-test.true in
    let first = c.args.front.now in
    let told = c.args.results.now in
    let before = c.loop-line.front in
    let told_before = c.loop-line.results in
    let after = c.if-line-context.front in
    let told_after = c.if-line-context.results in
    let so_far = c.loop-line.invariant in
    let now = lines_in context (take (i + 1) lines) in
    let runs : FrontView g.row.R.Denot → List DoneView → List Line → Type 0 = λ front results ls. RunsOn tracked steps stands journal ls first front told results in
    let rises : FrontView g.row.R.Denot → Type 0 = λ front. AllRiseBy first.counts front.counts (2 * (i + 1)) in
    let sends : FrontView g.row.R.Denot → Type 0 = λ front. sent front.rail + first.counts.batches ≡ sent first.rail + front.counts.batches in
    elim c.if-line-context.branch [
      | then-line-context+in_ok-run_line w ↦
          let ran = w.in_ok-run_line.ensures in
          let front = w.run_line.new.front in
          let results = w.run_line.new.results in
          let all = RunsOn-then tracked steps stands journal (lines_in context (take i lines)) (line ∷ []) first before front told told_before results so_far.runs ran.ok in
          let run = subst (λ (ls : List Line). runs front results ls) (sym (lines_in-its context i lines line inside c.line-item.is w.if-line-context.true)) all in
          record {
            runs = subst (λ (f : FrontView g.row.R.Denot). runs f told_after now) (sym w.front-is) (subst (λ (r : List DoneView). runs front r now) (sym w.results-is) run);
            kept = (so_far.kept.0 ++ ran.kept.0, w.results-is ∙ ran.kept.1 ∙ ap (λ (r : List DoneView). r ++ ran.kept.0) so_far.kept.1 ∙ append_assoc told so_far.kept.0 ran.kept.0);
            rises = subst rises (sym w.front-is) (AllRiseBy-more i first.counts before.counts front.counts so_far.rises ran.rises);
            sent = subst sends (sym w.front-is) (omega (arith, so_far.sent, ran.sent));
            same_size = ap (λ (f : FrontView g.row.R.Denot). f.size) w.front-is ∙ ran.size ∙ so_far.same_size;
          }
      | else-line-context w ↦
          let run = subst (λ (ls : List Line). runs before told_before ls) (sym (lines_in-others context i lines line inside c.line-item.is w.if-line-context.false)) so_far.runs in
          record {
            runs = subst (λ (f : FrontView g.row.R.Denot). runs f told_after now) (sym w.front-is) (subst (λ (r : List DoneView). runs before r now) (sym w.results-is) run);
            kept = (so_far.kept.0, w.results-is ∙ so_far.kept.1);
            rises = subst rises (sym w.front-is) (AllRiseBy-up_to i (i + 1) first.counts before.counts (omega arith) so_far.rises);
            sent = subst sends (sym w.front-is) so_far.sent;
            same_size = ap (λ (f : FrontView g.row.R.Denot). f.size) w.front-is ∙ so_far.same_size;
          }
    ]

pub returns-clause-ok : goal.returns-clause-ok
returns-clause-ok g c =
    let runs : List Line → Type 0 = λ lines. RunsOn g.D.Machine.tracked g.D.Machine.steps g.R.RailState.stands g.R.RailState.journal (lines_in c.args.context lines) c.args.front.now c.loop-line.front c.args.results.now c.loop-line.results in
    subst runs (take_all c.loop-line.line-index c.args.lines.now c.loop-line-test.false) c.loop-line.invariant.runs

pub returns-in_err-run_line-clause-stopped : goal.returns-in_err-run_line-clause-stopped
returns-in_err-run_line-clause-stopped g c =
    let tracked = g.D.Machine.tracked in
    let steps = g.D.Machine.steps in
    let stands = g.R.RailState.stands in
    let journal = g.R.RailState.journal in
    let fails = g.R.RailState.failed in
    let sent = g.R.RailState.sent in
    let context = c.args.context in
    let lines = c.args.lines.now in
    let i = c.loop-line.line-index in
    let line = c.line-item.result in
    let first = c.args.front.now in
    let told = c.args.results.now in
    let before = c.loop-line.front in
    let told_before = c.loop-line.results in
    let front = c.run_line.new.front in
    let results = c.run_line.new.results in
    let so_far = c.loop-line.invariant in
    let all = StopsOn-then tracked steps stands fails journal sent (lines_in context (take i lines)) (line ∷ []) first before front told told_before results so_far.runs c.in_err-run_line.ensures.stopped in
    let stops : List Line → Type 0 = λ ls. StopsOn tracked steps stands fails journal sent ls first front told results in
    OnErr-always c.from_residual.result
    (subst stops (sym (lines_in-around context i lines line c.loop-line-test.true c.line-item.is c.if-line-context.true))
    (StopsOn-before tracked steps stands fails journal sent (lines_in context (take i lines) ++ line ∷ []) (lines_in context (drop (i + 1) lines)) first front told results all))
