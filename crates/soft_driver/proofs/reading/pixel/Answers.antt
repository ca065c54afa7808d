use Rattle.soft_driver.proofs.Readings.{pixel_at-read}
use Rattle.soft_driver.proofs.reading.pixel.Goals as goal

pub returns : goal.returns
returns c =
    rw c.width.ensures (pixel_at-read c.args.frame.now c.cells-cells.result.now c.args.column c.args.row _ c.cells-cells.ensures.whole c.cells-cells.ensures.cells c.requires.column c.requires.row)
