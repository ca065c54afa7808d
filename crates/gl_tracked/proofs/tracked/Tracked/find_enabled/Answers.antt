use Rattle.std.proofs.Common.{Bool, cond, Option, None, Some, sym, ap, ◌∙◌}
use Rattle.std.proofs.lemmas.Bool.{cond-true, or_right}
use Rattle.gl_words.specs.declared.error.GlError.{GlError}
use Rattle.gl_words.specs.declared.error.GlError.TheVariants.{InvalidEnum}
use Rattle.gl_tracked.proofs.Asking.{enabled_is_array_name, enabled_is_no_array_name, or_neither}
use Rattle.gl_tracked.proofs.tracked.Tracked.find_enabled.Goals as goal

pub returns-in-Some-clause-fault : goal.returns-in-Some-clause-fault
returns-in-Some-clause-fault c =
    sym (cond-true _ _ _ (or_right _ _ (enabled_is_array_name c.args.self.now c.args.name c.in-Some.number (sym c.enabled.ensures ∙ c.in-Some.is))))

pub returns-in-None-clause-fault : goal.returns-in-None-clause-fault
returns-in-None-clause-fault c =
    let unnamed = enabled_is_no_array_name c.args.self.now c.args.name (sym c.enabled.ensures ∙ c.in-None.is) in
    let error : Bool → Option GlError = λ passes. cond passes None (Some InvalidEnum) in
    c.enum_unless.ensures ∙ ap error (c.is_capability.ensures ∙ sym (or_neither _ _ unnamed))
