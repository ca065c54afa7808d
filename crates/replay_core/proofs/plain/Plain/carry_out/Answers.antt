use Rattle.std.proofs.Common.{◌+◌, ◌<◌, length, List, ◌∷◌, [], take, sym, subst}
use Rattle.std.proofs.lemmas.List.{take_all}
use Rattle.script_reader.specs.declared.script.Line.{Line}
use Rattle.replay_lines.specs.Lines.{lines_in}
use Rattle.replay_lines.proofs.LinesLemmas.{lines_in-its, lines_in-others}
use Rattle.replay_core.specs.Plain.{CarriesOut, PlainView}
use Rattle.replay_core.proofs.PlainLemmas.{CarriesOut-nil, CarriesOut-then}
use Rattle.replay_core.proofs.plain.Plain.carry_out.Goals as goal
use Rattle.replay_core.proofs.plain.Plain.carry_out.Goals.{then-line-context+in_ok-carry_out_line, else-line-context}

pub loop-line-init : goal.loop-line-init
loop-line-init g c = CarriesOut-nil g.D.Machine.tracked g.D.Machine.steps _

pub loop-line-preserved : goal.loop-line-preserved
loop-line-preserved g c =
    let tracked = g.D.Machine.tracked in
    let steps = g.D.Machine.steps in
    let context = c.args.context in
    let lines = c.args.lines.now in
    let i = c.loop-line.line-index in
    let line = c.line-item.result in
    let inside : i < length lines = c.loop-line-test.true in
    let first : PlainView g.row.D.Denot = c.args.self.now in
    let before : PlainView g.row.D.Denot = c.loop-line.self in
    let now = lines_in context (take (i + 1) lines) in
    elim c.if-line-context.branch [
      | then-line-context+in_ok-carry_out_line w ↦
          let after : PlainView g.row.D.Denot = w.carry_out_line.new.self in
          let all = CarriesOut-then tracked steps (lines_in context (take i lines)) (line ∷ []) first before after c.loop-line.invariant w.in_ok-carry_out_line.ensures in
          let here = subst (λ (ls : List Line). CarriesOut tracked steps ls first after) (sym (lines_in-its context i lines line inside c.line-item.is w.if-line-context.true)) all in
          subst (λ (p : PlainView g.row.D.Denot). CarriesOut tracked steps now first p) (sym w.self-is) here
      | else-line-context w ↦
          let here = subst (λ (ls : List Line). CarriesOut tracked steps ls first before) (sym (lines_in-others context i lines line inside c.line-item.is w.if-line-context.false)) c.loop-line.invariant in
          subst (λ (p : PlainView g.row.D.Denot). CarriesOut tracked steps now first p) (sym w.self-is) here
    ]

pub returns : goal.returns
returns g c =
    let carried : List Line → Type 0 = λ lines. CarriesOut g.D.Machine.tracked g.D.Machine.steps (lines_in c.args.context lines) c.args.self.now c.loop-line.self in
    subst carried (take_all c.loop-line.line-index c.args.lines.now c.loop-line-test.false) c.loop-line.invariant
