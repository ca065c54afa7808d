use Rattle.std.proofs.Common.{refl, sym, ap, ◌∙◌, arith}
use Rattle.gl_objects.specs.Table.{total}
use Rattle.gl_objects.proofs.Tables.{total-none}
use Rattle.gl_objects.proofs.table.Table.new.Goals as goal

pub invariant_of-result : goal.invariant_of-result
invariant_of-result g c = (sym (ap (total g.T.Held.size) c.new.ensures.empty ∙ total-none g.T.Held.size), (omega arith, refl))
