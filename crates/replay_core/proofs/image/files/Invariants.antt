use Rattle.std.proofs.Common.{◌≡◌, take}
use Rattle.replay_core.specs.Images.{files_of}
use Rattle.replay_core.proofs.image.files.Given as goal

-- the files of what was told so far
abbrev pub invariant-loop-place : goal.invariant-loop-place
invariant-loop-place l = l.files.items ≡ files_of (take l.place l.results)
