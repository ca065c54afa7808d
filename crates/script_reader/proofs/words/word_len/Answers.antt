-- the first word ends at the first blank, or at the end
use Rattle.std.proofs.Common.{arith, rules}
use Rattle.script_reader.proofs.Cuts.{first_word, first_is_whole_word, not_the_first}
use Rattle.script_reader.proofs.words.word_len.Goals as goal

pub returns-then-is_blank_byte-clause-some : goal.returns-then-is_blank_byte-clause-some
returns-then-is_blank_byte-clause-some c = not_the_first c.args.text.now c.loop-at.at c.requires.word (search rules)

pub returns-then-is_blank_byte-clause-first : goal.returns-then-is_blank_byte-clause-first
returns-then-is_blank_byte-clause-first c = first_word c.args.text.now c.loop-at.at (not_the_first c.args.text.now c.loop-at.at c.requires.word (search rules)) c.loop-at.invariant (omega arith) (search rules)

pub returns-clause-first : goal.returns-clause-first
returns-clause-first c = first_is_whole_word c.args.text.now c.requires.some (λ k h. c.loop-at.invariant k (omega arith))
