use Rattle.std.proofs.Common.{◌≡◌, take, ap, ◌∙◌}
use Rattle.gl_objects.specs.Table.{least_free, given, without}
use Rattle.gl_objects.proofs.FreeNames.{taken_back}
use Rattle.gl_objects.proofs.table.Table.generate.Goals as goal

pub returns-in-Err-clause-err : goal.returns-in-Err-clause-err
returns-in-Err-clause-err g c =
    let table = c.args.self.now in
    let some = c.in-Err.ensures.err in
    let same : c.pass_used.new.self ≡ table = c.pass_used.ensures in
    let names = c.in_ok-names.ensures ∙ ap (λ t. least_free t c.args.n) same in
    let passed : c.as_slice.result.now ≡ least_free table c.args.n = c.as_slice.ensures.value ∙ names in
    let again : c.as_slice-in-Err.result.now ≡ least_free table c.args.n = c.as_slice-in-Err.ensures.value ∙ names in
    c.forget_all.ensures
    ∙ ap (λ names. without names c.give_all.new.self) again
    ∙ ap (without (least_free table c.args.n)) (some.1 ∙ ap (given (take some.0 c.as_slice.result.now)) same ∙ ap (λ names. given (take some.0 names) table) passed)
    ∙ taken_back table c.args.n some.0
