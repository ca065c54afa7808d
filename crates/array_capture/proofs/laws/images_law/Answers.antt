use Rattle.array_capture.proofs.Covering.{pieces_of_image-serve, pieces_of_subimage-serve}
use Rattle.array_capture.proofs.laws.images_law.Goals as goal

pub returns-clause-image : goal.returns-clause-image
returns-clause-image g c =
    λ format width height place. pieces_of_image-serve c.args.tracked.now format width height place (g.M.Memory.segments c.args.memory.now)

pub returns-clause-part : goal.returns-clause-part
returns-clause-part g c =
    λ format width height place. pieces_of_subimage-serve c.args.tracked.now format width height place (g.M.Memory.segments c.args.memory.now)
