-- A script as data for the direct machine: one context, and its lines; own.
use Rattle.std.specs.Prelude.{◌≡◌, ℕ, ◌≤◌, List, [], ◌∷◌}
use Rattle.fragment_ops.specs.Frame.{AreSides}
use Rattle.script_reader.specs.declared.script.ContextSpec.{ContextSpec}
use Rattle.script_reader.specs.declared.script.Line.{Line}
use Rattle.script_reader.specs.declared.script.Script.{Script}

-- the number of a script's one context; own
abbrev pub only_number : ℕ
only_number = 0

-- a script: the sides of its context in pixels, the size of its client memory in bytes, and its lines in order; own
pub record Scripted : Type 0 where
  pub width : ℕ
  pub height : ℕ
  pub memory : ℕ
  pub lines : List Line

-- the first of the contexts; a script has one; own
abbrev pub first_context : List ContextSpec → ContextSpec
first_context [] = record { width = 1; height = 1; memory = 0 }
first_context (context ∷ contexts) = context

-- a script as its first context and its lines; own
abbrev pub seen_script : Script → Scripted
seen_script script = record {
  width = (first_context script.contexts).width;
  height = (first_context script.contexts).height;
  memory = (first_context script.contexts).memory;
  lines = script.lines;
}

-- the contexts are one, with sides of 1 to 256 pixels and at most 1,048,576 bytes of memory; own
pub record IsOneContext (contexts : List ContextSpec) : Type 0 where
  pub context : ContextSpec
  pub only : contexts ≡ context ∷ []
  pub sides : AreSides context.width context.height
  pub memory : context.memory ≤ 1048576
