use Rattle.replay_text.proofs.NameLemmas.{names_are_text}
use Rattle.replay_text.proofs.name.text_of.Goals as goal

pub returns-in-Err : goal.returns-in-Err
returns-in-Err c = absurd (c.in-Err.ensures.cases.0 (names_are_text _ c.as_bytes.ensures.name))
