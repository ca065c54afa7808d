use Rattle.std.proofs.Common.{[], ◌∷◌, subst}
use Rattle.std.proofs.lemmas.Result.{on_ok_weaker}
use Rattle.replay_core.specs.Plain.{CarriesOut, PlainView}
use Rattle.replay_core.proofs.PlainLemmas.{CarriesOut-mem, CarriesOut-image}
use Rattle.replay_core.proofs.plain.Plain.carry_out_line.Goals as goal

pub returns-in-Mem : goal.returns-in-Mem
returns-in-Mem g c =
    let tracked = g.D.Machine.tracked in
    let steps = g.D.Machine.steps in
    let new : PlainView g.row.D.Denot = record { driver = c.self.inside.driver; memory = c.write.new.self; told = c.self.inside.results } in
    subst (λ (p : PlainView g.row.D.Denot). CarriesOut tracked steps (c.args.line.now ∷ []) p new) c.self.view_is
    (CarriesOut-mem tracked steps c.args.line.now c.in-Mem.at c.from.result c.in-Mem.bytes c.as_slice.result.now c.self.inside.driver c.self.inside.memory c.write.new.self c.self.inside.results
    c.in-Mem.is c.from.ensures c.as_slice.ensures c.write.ensures)

pub returns-in_ok-what-in-Image : goal.returns-in_ok-what-in-Image
returns-in_ok-what-in-Image g c =
    let tracked = g.D.Machine.tracked in
    let steps = g.D.Machine.steps in
    let inside = c.self-in-Image.inside in
    let new : PlainView g.row.D.Denot = record { driver = inside.driver; memory = inside.memory; told = c.push.new.self } in
    on_ok_weaker c.push.result
    (λ added. subst (λ (p : PlainView g.row.D.Denot). CarriesOut tracked steps (c.args.line.now ∷ []) p new) c.self-in-Image.view_is
    (CarriesOut-image tracked steps c.args.line.now c.in-Image.name c.in-Image.width c.in-Image.height c.in-Image.at _ inside.driver _ inside.results c.push.new.self
    c.in-Image.is c.in_ok-what-in-Image.ensures added))
    c.push.ensures.ok
