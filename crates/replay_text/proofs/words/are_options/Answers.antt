use Rattle.std.proofs.Common.{string_bytes, sym, ◌∙◌}
use Rattle.replay_text.proofs.WordPairs.{map_two, named_again, no_option_left}
use Rattle.replay_text.proofs.words.are_options.Goals as goal

pub returns-then-is_some : goal.returns-then-is_some
returns-then-is_some c =
    let two = map_two (λ word. string_bytes word) c.pairs.remaining.now c.name-item.result c.value-item.result c.in-len2-up.len_at_least c.name-item.is c.value-item.is in
    named_again _ _ _ _ _ c.value_given.result two c.as_bytes-in-len2-up-2.ensures.value c.value_given.ensures (sym c.is_some.ensures ∙ c.if-is_some.true) ∙ c.pairs.invariant

pub returns : goal.returns
returns c = c.is_empty.ensures ∙ no_option_left c.pairs.remaining.now c.in_default.len_below ∙ c.pairs.invariant
