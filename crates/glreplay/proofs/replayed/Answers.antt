use Rattle.std.proofs.Common.{Some, ap, sym, ◌∙◌}
use Rattle.replay_text.specs.Words.{texts_of}
use Rattle.replay_text.proofs.Rails.{no_words_ask_for_a_ring}
use Rattle.glreplay.proofs.replayed.Goals as goal

pub unreachable-requires : goal.unreachable-requires
unreachable-requires g c = no_words_ask_for_a_ring (texts_of c.args.words.now) (sym c.rail_of.ensures ∙ c.in-Some-Ring.is ∙ ap Some c.in-Some-Ring.field-0-is)
