-- the table is computed: its rows are those of the calls
use Rattle.std.proofs.Common.{refl}
use Rattle.gl_words.specs.Call.{name_of, id_of, kinds_of, is_answering}
use Rattle.gl_words.proofs.table.table.Goals as goal

pub returns : goal.returns
unfolding name_of id_of kinds_of is_answering
returns c = record { same_rows = refl; numbered = refl }
