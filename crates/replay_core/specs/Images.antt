-- The images of a script, each made of what was told of it; own.
use Rattle.std.specs.Prelude.{◌≡◌, ℕ, ◌*◌, List, [], ◌∷◌, ◌++◌, length}
use Rattle.std.specs.List.{flat_map}
use Rattle.fragment_ops.specs.Frame.{AreSides, FrameView}
use Rattle.replay_lines.specs.Results.{Answer, DoneView, Picture, Shown}
use Rattle.replay_text.specs.Ppm.{frame_name, image_name, ppm_of, ppm_of_cells}
use Rattle.replay_core.specs.Direct.{end_of}
use Rattle.replay_core.specs.Script.{Scripted}
use Rattle.replay_core.specs.World.{File}

-- the file of what a line told, if it took an image; own
abbrev pub file_of : Shown → List File
file_of (Answer call numbers) = []
file_of (Picture name width height bytes) = (image_name name, ppm_of width height bytes) ∷ []

-- an image has sides of 1 to 256 pixels, and four bytes a pixel; own
pub record IsPicture (width height : ℕ) (bytes : List ℕ) : Type 0 where
  pub sides : AreSides width height
  pub whole : length bytes ≡ width * height * 4

-- what was told is no image, or a whole one; own
abbrev pub IsWhole : Shown → Type 0
IsWhole (Answer call numbers) = Unit {0}
IsWhole (Picture name width height bytes) = IsPicture width height bytes

-- the files of the images that lines took, in order; own
unfoldable pub files_of : List DoneView → List File
files_of told = flat_map (λ done. file_of done.shown) told

-- the file of a context's frame; own
unfoldable pub frame_file : ℕ → FrameView → File
frame_file context frame = (frame_name context, ppm_of_cells frame.width frame.height frame.cells)

-- the images of a script's context: those that its lines took, in order, and then its frame; own
unfoldable pub images_of : ℕ → Scripted → List File
images_of context script = files_of (end_of context script).told ++ frame_file context (end_of context script).own.frame ∷ []
