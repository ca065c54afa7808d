-- what isn't text is no name, and a name of a call has the call's kinds, which are few
use Rattle.gl_words.proofs.Shapes.{named_shape_is_short}
use Rattle.script_reader.proofs.Ascii.{no_shape_unless_text}
use Rattle.script_reader.proofs.body.shape_from.Goals as goal

pub returns-in-Err-clause-gives : goal.returns-in-Err-clause-gives
returns-in-Err-clause-gives c = no_shape_unless_text c.args.name.now (c.in-Err.ensures.cases.0)

pub returns-in-Ok-clause-few : goal.returns-in-Ok-clause-few
returns-in-Ok-clause-few c = named_shape_is_short c.in-Ok.name.now c.shape_of_name.result c.shape_of_name.ensures.found
