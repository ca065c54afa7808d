use Rattle.std.proofs.Common.{List, Bor, sym, ap, ◌∙◌}
use Rattle.gl_words.proofs.Tables.{of_length-at, of_length-past}
use Rattle.gl_words.proofs.lookup.of_length.Goals as goal

pub returns-then-len-groups : goal.returns-then-len-groups
returns-then-len-groups g c =
    ap (λ (group : Bor (List g.row.T.Denot)). group.now) c.index-groups-len.is
    ∙ sym (of_length-at c.args.groups.now c.args.len c.index-groups-len.result c.if-len-groups.true)

pub returns-else-len-groups : goal.returns-else-len-groups
returns-else-len-groups g c = sym (of_length-past c.args.groups.now c.args.len c.if-len-groups.false)
