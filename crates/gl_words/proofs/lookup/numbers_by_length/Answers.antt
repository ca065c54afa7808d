-- each call's number is looked for in its group
use Rattle.std.proofs.Common.{refl}
use Rattle.gl_words.specs.Call.{name_of, id_of}
use Rattle.gl_words.proofs.lookup.numbers_by_length.Goals as goal

pub returns : goal.returns
unfolding name_of id_of
returns c = refl
