-- what is left of the table answers as the whole does
use Rattle.std.proofs.Common.{◌≡◌, drop}
use Rattle.gl_words.specs.Lookup.{seen_names, found_in}
use Rattle.gl_words.proofs.names.number_in.Given as goal

abbrev pub invariant-loop-row : goal.invariant-loop-row
invariant-loop-row l = found_in (seen_names (drop l.row-index l.table)) l.name ≡ found_in (seen_names l.table) l.name
