use Rattle.std.proofs.Common.{sym, ap, ◌∙◌, rules, w64, SFits}
use Rattle.std.specs.Prelude.{pos}
use Rattle.std.proofs.lemmas.Int.{to_z-of_z}
use Rattle.gl_state.specs.Step.{code_of_error}
use Rattle.driver_trait.specs.Reply.{replied}
use Rattle.script_trace.specs.Errors.{error_numbered}
use Rattle.script_trace.proofs.Recording.{error_numbered-code, numbers_eq, one_told}
use Rattle.script_trace.proofs.direct.error_in.Goals as goal

pub returns-in-One : goal.returns-in-One
returns-in-One c = λ error is. c.error_numbered.ensures ∙ one_told _ error (ap replied (sym c.in-One.is) ∙ is)

pub returns-in-Numbers : goal.returns-in-Numbers
returns-in-Numbers c = λ error is.
    let number = c.first_of-number.result in
    let fits : SFits w64 number = search rules in
    c.error_numbered-in-Numbers.ensures
    ∙ ap error_numbered (to_z-of_z w64 number fits ∙ c.first_of-number.ensures (pos (code_of_error error)) (c.as_slice.ensures ∙ numbers_eq _ _ (ap replied (sym c.in-Numbers.is) ∙ is)))
    ∙ error_numbered-code error
