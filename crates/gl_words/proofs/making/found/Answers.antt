use Rattle.std.proofs.Common.{sym, ap, ◌∙◌}
use Rattle.gl_words.specs.CallOf.{made_of}
use Rattle.gl_words.proofs.Makings.{map-itself}
use Rattle.gl_words.proofs.Slotted.{call_of-none, call_of-row}
use Rattle.gl_words.proofs.making.found.Goals as goal

pub returns-in-Some : goal.returns-in-Some
returns-in-Some c =
    c.made.ensures
    ∙ ap (made_of c.in-Some.row.now.call) (map-itself c.args.args.now)
    ∙ call_of-row c.args.id c.in-Some.row.now c.args.args.now c.in-Some.ensures

pub returns-in-None : goal.returns-in-None
returns-in-None c = sym (call_of-none c.args.id c.args.args.now c.in-None.ensures)
