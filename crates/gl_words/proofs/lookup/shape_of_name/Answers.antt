use Rattle.std.proofs.Common.{sym}
use Rattle.gl_words.proofs.Shapes.{shape_is_named, shape_is_of, no_shape_named}
use Rattle.gl_words.proofs.lookup.shape_of_name.Goals as goal

pub returns-in-Some-clause-gives : goal.returns-in-Some-clause-gives
returns-in-Some-clause-gives c = shape_is_named c.args.name.now c.in-Some.row.now c.in-Some.ensures

pub returns-in-Some-clause-only : goal.returns-in-Some-clause-only
returns-in-Some-clause-only c = shape_is_of c.args.name.now c.in-Some.row.now c.in-Some.ensures

pub returns-in-None-clause-gives : goal.returns-in-None-clause-gives
returns-in-None-clause-gives c = sym (no_shape_named c.args.name.now c.in-None.ensures)
