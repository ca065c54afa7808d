use Rattle.std.proofs.Common.{rules}
use Rattle.gl_words.specs.Call.{IsInRange, kinds_of, arguments}
use Rattle.gl_words.proofs.table.number_of.Goals as goal

pub returns-in-TexImage2D-clause-in_range : goal.returns-in-TexImage2D-clause-in_range
unfolding IsInRange kinds_of arguments
returns-in-TexImage2D-clause-in_range c = rw c.in-TexImage2D.is (search rules, (search rules, (search rules, (search rules, (search rules, (search rules, (search rules, (search rules, (search rules, tt)))))))))

pub returns-in-TexSubImage2D-clause-in_range : goal.returns-in-TexSubImage2D-clause-in_range
unfolding IsInRange kinds_of arguments
returns-in-TexSubImage2D-clause-in_range c = rw c.in-TexSubImage2D.is (search rules, (search rules, (search rules, (search rules, (search rules, (search rules, (search rules, (search rules, (search rules, tt)))))))))
