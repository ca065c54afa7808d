-- the names are looked up, each in its group, and each of a group among all
use Rattle.std.proofs.Common.{refl}
use Rattle.gl_words.specs.Names.{names}
use Rattle.gl_words.proofs.names.names_by_length.Goals as goal

pub returns : goal.returns
unfolding names
returns c = record { each = refl; only = refl }
