-- What a name of a call says of it: its number and the kinds of its arguments.
use Rattle.std.specs.Prelude.{◌≡◌, ℕ, List, Option, map}
use Rattle.gl_words.specs.Call.{name_of, id_of, kinds_of, each_call}
use Rattle.gl_words.specs.Lookup.{found_in}
use Rattle.gl_words.specs.declared.call.Call.{Call}
use Rattle.gl_words.specs.declared.shape.ArgKind.{ArgKind}
use Rattle.gl_words.specs.declared.shape.Shape.{Shape}

-- the shape is that of the call: its number, and the kinds of its arguments; own
abbrev pub IsShapeOf : Shape → Call → Type 0
IsShapeOf shape call = (shape.id ≡ id_of call) × (shape.kinds.now ≡ kinds_of call)

-- the name is that of some call, which has the shape; own
abbrev pub IsNamedShape : List ℕ → Shape → Type 0
IsNamedShape name shape = (call : Call) × (name_of call ≡ name) × IsShapeOf shape call

-- each name of a call with the call's number and kinds; own
unfoldable pub shapes : List (List ℕ × (ℕ × List ArgKind))
shapes = map (λ call. (name_of call, (id_of call, kinds_of call))) each_call

-- number and kinds of the call with a name; own
abbrev pub shape_named : List ℕ → Option (ℕ × List ArgKind)
shape_named name = found_in shapes name

-- a shape without where its kinds lie in memory; own
abbrev pub seen_shape : Shape → ℕ × List ArgKind
seen_shape shape = (shape.id, shape.kinds.now)
