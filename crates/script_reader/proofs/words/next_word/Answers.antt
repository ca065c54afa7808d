-- what is left holds no word
use Rattle.std.proofs.Common.{sym, ap, ◌∙◌}
use Rattle.std.proofs.lemmas.Bool.{eqb-true}
use Rattle.script_reader.specs.Cutting.{words_of}
use Rattle.script_reader.proofs.Cuts.{words_of-empty}
use Rattle.script_reader.proofs.words.next_word.Goals as goal

pub returns-then-is_empty-clause-cases : goal.returns-then-is_empty-clause-cases
returns-then-is_empty-clause-cases c =
    c.blanks_len.ensures.same ∙ ap words_of (sym c.split_at.ensures.back) ∙ words_of-empty c.split_at.result.1.now (eqb-true _ 0 (sym c.is_empty.ensures ∙ c.if-is_empty.true))
