use Rattle.soft_driver.proofs.Drawings.{unit_is_array}
use Rattle.soft_driver.proofs.drawing.texturing_of.Goals as goal

pub returns-clause-array : goal.returns-clause-array
returns-clause-array c = unit_is_array c.tracked-tracked.result.now.texture c.args.unit _ c.tracked-tracked.ensures.sound.texture c.requires.unit
