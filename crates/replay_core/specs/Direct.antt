-- The direct machine: it carries out each line as it is read. It knows an own state, objects, client memory and what was told, and no batch, slot, class or front; own.
use Rattle.std.specs.Prelude.{ℕ, List, [], ◌∷◌, ◌++◌, replicate}
use Rattle.gl_memory.specs.ClientMemory.{memory_of, written}
use Rattle.driver_trait.specs.Output.{memory_after}
use Rattle.script_reader.specs.declared.script.Act.{Act}
use Rattle.script_reader.specs.declared.script.Act.TheVariants.{Mem, Image, Gl}
use Rattle.script_reader.specs.declared.script.Line.{Line}
use Rattle.gl_words.specs.declared.call.Call.{Call}
use Rattle.gl_objects.specs.Step.{no_objects}
use Rattle.gl_objects.specs.View.{ObjectsView}
use Rattle.soft_driver.specs.Own.{Own, Stepped, event_of, first_own, objects_changed, own_step}
use Rattle.soft_driver.specs.Renderer.{SoftView}
use Rattle.replay_lines.specs.Lines.{lines_in}
use Rattle.replay_lines.specs.Results.{DoneView, Picture, taken_bytes, told_of}
use Rattle.replay_core.specs.Script.{Scripted}

-- where the direct machine has come to: the context's own state, the objects, client memory, and what was told; own
pub record Reached : Type 0 where
  pub own : Own
  pub objects : ObjectsView
  pub memory : List ℕ
  pub told : List DoneView

-- after a call on a line of this number and context, by what its step gave, and by the objects after its event: its reply is written into client memory, and what it tells is told; own
abbrev pub taken : Reached → ℕ → ℕ → Call → Stepped → ObjectsView → Reached
taken here number context call step objects = record {
  own = step.own;
  objects = objects;
  memory = memory_after here.own.state.tracked call step.reply here.memory;
  told = here.told ++ told_of number context call step.reply;
}

-- after what a line of this number and context does: a mem line writes client memory, an image line takes an image out of it, and a call is carried out on it and on the objects as they stand, then its event is applied to these, and its reply is written; own
abbrev pub carried_out : Reached → ℕ → ℕ → Act → Reached
carried_out here number context (Mem at bytes) = record here { memory = written here.memory at bytes.items }
carried_out here number context (Image name width height at) =
    record here { told = here.told ++ record { number = number; context = context; shown = Picture name width height (taken_bytes here.memory width height at) } ∷ [] }
carried_out here number context (Gl call) =
    let memory = memory_of here.memory in
    taken here number context call (own_step here.own call memory here.objects) (objects_changed here.objects (event_of here.own call memory))

-- after a line; own
abbrev pub past_line : Reached → Line → Reached
past_line here line = carried_out here line.number line.context line.act

-- after lines, one after another; own
unfoldable pub past_lines : Reached → List Line → Reached
past_lines here [] = here
past_lines here (line ∷ lines) = past_lines (past_line here line) lines

-- the start of a script's context: a new own state of its number, no objects, client memory of zeros, and nothing told; own
abbrev pub start_of : ℕ → Scripted → Reached
start_of context script = record {
  own = first_own context script.width script.height;
  objects = no_objects;
  memory = replicate script.memory 0;
  told = [];
}

-- the end of a script's context; own
unfoldable pub end_of : ℕ → Scripted → Reached
end_of context script = past_lines (start_of context script) (lines_in context script.lines)

-- the renderer as the direct machine has it; own
abbrev pub soft_reached : Reached → SoftView
soft_reached here = record { own = here.own; objects = here.objects }
