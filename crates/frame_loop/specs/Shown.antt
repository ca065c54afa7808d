-- What is printed; own.
use Rattle.gl_objects.specs.Step.{no_objects}
use Rattle.soft_driver.specs.Renderer.{first_soft}
use Rattle.frame_loop.specs.declared.asked.Asked.{Asked}
use Rattle.frame_loop.specs.declared.session.Shown.{Shown}
use Rattle.frame_loop.specs.Checksum.{checksum_of}
use Rattle.frame_loop.specs.Frame.{after_frames}
use Rattle.frame_loop.specs.Work.{sum_of}

-- what is printed where this was asked for: what the work came to, and the checksum of the frame that the renderer alone is left with; own
abbrev pub shown_by : Asked → Shown
shown_by asked = record {
  sum = sum_of asked.work asked.frames;
  checksum = checksum_of (after_frames asked.asks asked.frames (first_soft 0 256 256 no_objects)).own.frame.cells;
}
