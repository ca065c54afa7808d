-- What a call does to the private state of a context, what it replies, and what it needs beyond that state; sections 2.5, 2.7, 2.9, 2.10.1, 2.10.2, 2.12, 3.5.1, 3.7.11, 3.7.12, 4.1, 4.2 and 6.1. An error is handed to each part: who carries the call out finds it once.
use Rattle.std.specs.Prelude.{ℕ, ℤ, pos, Bool, true, false, List, [], ◌∷◌, map, slice_set, Option, Some, None}
use Rattle.gl_words.specs.declared.call.Call.{Call}
use Rattle.gl_words.specs.declared.call.Call.TheVariants.{AlphaFuncx, BindBuffer, BindTexture, BlendFunc, BufferData, BufferSubData, Clear, ClearColorx, ClearDepthx, Color4x, ColorMask, CullFace, DeleteBuffers, DeleteTextures, DepthFunc, DepthMask, DepthRangex, Disable, DrawArrays, DrawElements, Enable, FrontFace, Frustumx, GenBuffers, GenTextures, GetError, GetFixedv, GetIntegerv, GetPointerv, IsBuffer, IsEnabled, IsTexture, LoadIdentity, LoadMatrixx, MultMatrixx, MultiTexCoord4x, Normal3x, Orthox, PopMatrix, PushMatrix, ReadPixels, Rotatex, Scalex, Scissor, ShadeModel, TexEnvi, TexEnvxv, TexImage2D, TexParameteri, TexSubImage2D, Translatex, Viewport}
use Rattle.gl_words.specs.declared.error.GlError.{GlError}
use Rattle.gl_words.specs.GlError.{code_of}
use Rattle.gl_memory.specs.Segment.{Segment}
use Rattle.fixed_transform.specs.declared.matrix.Matrix.{Matrix}
use Rattle.fixed_transform.specs.Matrix.{identity, product, translation_of, scaling_of}
use Rattle.fixed_transform.specs.Projection.{frustum_of, ortho_of}
use Rattle.fixed_transform.specs.Rotation.{rotation_of}
use Rattle.fixed_transform.specs.Stack.{top_of, below_top}
use Rattle.gl_tracked.specs.declared.tracked.Tracked.{Tracked}
use Rattle.gl_objects.specs.declared.reply.EventReply.{EventReply}
use Rattle.gl_tracked.specs.Count.{count_of}
use Rattle.gl_tracked.specs.Fault.{fault_of}
use Rattle.gl_tracked.specs.Gets.{number_of_truth, pointer_asked}
use Rattle.gl_tracked.specs.Names.{names_at}
use Rattle.gl_tracked.specs.Step.{number_asked, set_by}
use Rattle.driver_trait.specs.Reply.{Replied, Nothing, Numbers}
use Rattle.gl_state.specs.declared.settings.Settings.{Settings}
use Rattle.gl_state.specs.declared.plan.Plan.{Plan}
use Rattle.gl_state.specs.declared.plan.Plan.TheVariants.{Ask as Asks, Draw, Fault, Known, Local, Query, Read}
use Rattle.gl_state.specs.Gets.{alone, fixed_asked, fixed_length, integers_asked, integers_length, truth_asked}
use Rattle.gl_state.specs.Images.{colour_from}
use Rattle.gl_state.specs.Private.{PrivateView}
use Rattle.gl_state.specs.Settings.{clamped_to_one, clamped_origin, clamped_side, place_of_unit, with_capability, without_textures}
use Rattle.gl_state.specs.Stacks.{StacksView, current_of, matrix_at, with_current}

-- the stacks with another current one, that of the matrix mode and the active unit; section 2.10.2
abbrev pub with_change : (List Matrix → List Matrix) → Tracked → StacksView → StacksView
with_change change tracked stacks = with_current stacks tracked.matrix_mode tracked.active (change (current_of stacks tracked.matrix_mode tracked.active))

-- the current matrix is multiplied by another, which stands on the right; section 2.10.2
abbrev pub with_product : Matrix → Tracked → StacksView → StacksView
with_product right tracked stacks = with_change (λ matrices. product (top_of matrices) right ∷ below_top matrices) tracked stacks

-- a call multiplies the current matrix; section 2.10.2
abbrev pub is_product : Call → Bool
is_product (Frustumx left right bottom top near far) = true
is_product (MultMatrixx matrix) = true
is_product (Orthox left right bottom top near far) = true
is_product (Rotatex angle x y z) = true
is_product (Scalex x y z) = true
is_product (Translatex x y z) = true
is_product _ = false

-- the stacks after a call without an error on a memory, from which LoadMatrixx and MultMatrixx take a matrix; section 2.10.2
unfoldable pub stacks_set_by : Tracked → StacksView → Call → List Segment → StacksView
stacks_set_by tracked stacks (Frustumx left right bottom top near far) memory = with_product (frustum_of left right bottom top near far) tracked stacks
stacks_set_by tracked stacks LoadIdentity memory = with_change (λ matrices. identity ∷ below_top matrices) tracked stacks
stacks_set_by tracked stacks (LoadMatrixx matrix) memory = with_change (λ matrices. matrix_at memory matrix ∷ below_top matrices) tracked stacks
stacks_set_by tracked stacks (MultMatrixx matrix) memory = with_product (matrix_at memory matrix) tracked stacks
stacks_set_by tracked stacks (Orthox left right bottom top near far) memory = with_product (ortho_of left right bottom top near far) tracked stacks
stacks_set_by tracked stacks PopMatrix memory = with_change (λ matrices. below_top matrices) tracked stacks
stacks_set_by tracked stacks PushMatrix memory = with_change (λ matrices. top_of matrices ∷ matrices) tracked stacks
stacks_set_by tracked stacks (Rotatex angle x y z) memory = with_product (rotation_of angle x y z) tracked stacks
stacks_set_by tracked stacks (Scalex x y z) memory = with_product (scaling_of x y z) tracked stacks
stacks_set_by tracked stacks (Translatex x y z) memory = with_product (translation_of x y z) tracked stacks
stacks_set_by tracked stacks _ memory = stacks

-- a call sets a value that vertices take where no array has one; section 2.7
abbrev pub is_current : Call → Bool
is_current (Color4x red green blue alpha) = true
is_current (MultiTexCoord4x target s t r q) = true
is_current (Normal3x nx ny nz) = true
is_current _ = false

-- a call sets where primitives lie in the window, which faces they have, or how they are shaded; sections 2.10.1, 2.12.1, 2.12.7 and 3.5.1
abbrev pub is_of_primitives : Call → Bool
is_of_primitives (CullFace mode) = true
is_of_primitives (DepthRangex near far) = true
is_of_primitives (FrontFace mode) = true
is_of_primitives (ShadeModel mode) = true
is_of_primitives (Viewport x y width height) = true
is_of_primitives _ = false

-- a call sets a test of fragments, or how they are blended; sections 4.1.2 to 4.1.7
abbrev pub is_of_tests : Call → Bool
is_of_tests (AlphaFuncx func reference) = true
is_of_tests (BlendFunc sfactor dfactor) = true
is_of_tests (DepthFunc func) = true
is_of_tests (Scissor x y width height) = true
is_of_tests _ = false

-- a call sets what the frame is cleared to, or which parts of it are written; sections 4.2.2 and 4.2.3
abbrev pub is_of_frame : Call → Bool
is_of_frame (ClearColorx red green blue alpha) = true
is_of_frame (ClearDepthx depth) = true
is_of_frame (ColorMask red green blue alpha) = true
is_of_frame (DepthMask flag) = true
is_of_frame _ = false

-- a call sets the environment of the active unit; section 3.7.12
abbrev pub is_of_environment : Call → Bool
is_of_environment (TexEnvi target pname param) = true
is_of_environment (TexEnvxv target pname params) = true
is_of_environment _ = false

-- the settings after a call without an error on a memory, from which DeleteTextures takes names and TexEnvxv a colour, by tracked state, whose active unit tells of which unit TEXTURE_2D, a bound texture and an environment are; sections 2.7, 2.10.1, 2.12.1, 2.12.7, 3.5.1, 3.7.11, 3.7.12, 4.1.2 to 4.1.7, 4.2.2 and 4.2.3
unfoldable pub settings_set_by : Tracked → Settings → Call → List Segment → Settings
settings_set_by tracked settings (AlphaFuncx func reference) memory = record settings { alpha_func = func; alpha_reference = clamped_to_one reference }
settings_set_by tracked settings (BindTexture target texture) memory =
    record settings { bindings = slice_set settings.bindings (place_of_unit tracked.active) texture }
settings_set_by tracked settings (BlendFunc sfactor dfactor) memory = record settings { source_factor = sfactor; dest_factor = dfactor }
settings_set_by tracked settings (ClearColorx red green blue alpha) memory =
    record settings { clear_colour = clamped_to_one red ∷ clamped_to_one green ∷ clamped_to_one blue ∷ clamped_to_one alpha ∷ [] }
settings_set_by tracked settings (ClearDepthx depth) memory = record settings { clear_depth = clamped_to_one depth }
settings_set_by tracked settings (Color4x red green blue alpha) memory = record settings { colour = red ∷ green ∷ blue ∷ alpha ∷ [] }
settings_set_by tracked settings (ColorMask red green blue alpha) memory = record settings { colour_mask = red ∷ green ∷ blue ∷ alpha ∷ [] }
settings_set_by tracked settings (CullFace mode) memory = record settings { cull_face = mode }
settings_set_by tracked settings (DeleteTextures n names) memory = without_textures (names_at memory names (count_of n)) settings
settings_set_by tracked settings (DepthFunc func) memory = record settings { depth_func = func }
settings_set_by tracked settings (DepthMask flag) memory = record settings { depth_mask = flag }
settings_set_by tracked settings (DepthRangex near far) memory = record settings { depth_range = clamped_to_one near ∷ clamped_to_one far ∷ [] }
settings_set_by tracked settings (Disable cap) memory =
    record settings { capabilities = with_capability settings.capabilities (place_of_unit tracked.active) cap false }
settings_set_by tracked settings (Enable cap) memory =
    record settings { capabilities = with_capability settings.capabilities (place_of_unit tracked.active) cap true }
settings_set_by tracked settings (FrontFace mode) memory = record settings { front_face = mode }
settings_set_by tracked settings (MultiTexCoord4x target s t r q) memory =
    record settings { coordinates = slice_set settings.coordinates (place_of_unit target) (s ∷ t ∷ r ∷ q ∷ []) }
settings_set_by tracked settings (Normal3x nx ny nz) memory = record settings { normal = nx ∷ ny ∷ nz ∷ [] }
settings_set_by tracked settings (Scissor x y width height) memory = record settings { scissor = x ∷ y ∷ width ∷ height ∷ [] }
settings_set_by tracked settings (ShadeModel mode) memory = record settings { shade_model = mode }
settings_set_by tracked settings (TexEnvi target pname param) memory =
    record settings { environment_mode = slice_set settings.environment_mode (place_of_unit tracked.active) (count_of param) }
settings_set_by tracked settings (TexEnvxv target pname params) memory =
    record settings { environment_colour = slice_set settings.environment_colour (place_of_unit tracked.active) (colour_from memory params) }
settings_set_by tracked settings (Viewport x y width height) memory =
    record settings { viewport = clamped_origin x ∷ clamped_origin y ∷ clamped_side width ∷ clamped_side height ∷ [] }
settings_set_by tracked settings _ memory = settings

-- an error is recorded where none is yet; section 2.5
abbrev pub recorded : Option GlError → GlError → Option GlError
recorded None error = Some error
recorded (Some first) error = Some first

-- the recorded error after a call without an error: GetError forgets it; section 2.5
abbrev pub error_set_by : Option GlError → Call → Option GlError
error_set_by error GetError = None
error_set_by error _ = error

-- the recorded error after an event was refused for this fault, or for none: it is recorded after those of the call; section 2.5
abbrev pub recorded_by : Option GlError → Option GlError → Option GlError
recorded_by error None = error
recorded_by error (Some fault) = recorded error fault

-- the private state after a call with this error, or none, on a memory, of which the event was refused for this fault, or for none: an error is recorded, and the call does nothing else, and so is what the event was refused for; sections 2.5 and 2.9
abbrev pub private_after : Option GlError → PrivateView → Call → List Segment → Option GlError → PrivateView
private_after (Some error) p call memory refused = record p { error = recorded p.error error }
private_after None p call memory refused = record p {
  error = recorded_by (error_set_by p.error call) refused;
  tracked = set_by p.tracked call memory;
  stacks = stacks_set_by p.tracked p.stacks call memory;
  settings = settings_set_by p.tracked p.settings call memory;
}

-- the number of a recorded error, 0 where there is none; section 2.5
abbrev pub code_of_error : Option GlError → ℕ
code_of_error None = 0
code_of_error (Some error) = code_of error

-- numbers as a reply, where there are some; own
abbrev pub numbers_replied : Option (List ℤ) → Replied
numbers_replied None = Nothing
numbers_replied (Some numbers) = Numbers numbers

-- what a call other than ReadPixels replies with this error, or none, its event having given this back: a get what it asks for, GetError the recorded error, and what asks for names or whether one is that of an object what the event tells; sections 2.5, 2.9, 3.7.11 and 6.1. None is read from memory
abbrev pub private_reply : Option GlError → PrivateView → Call → EventReply → Replied
private_reply (Some error) p call event = Nothing
private_reply None p (GenBuffers n names) event = Numbers (map pos event.names)
private_reply None p (GenTextures n names) event = Numbers (map pos event.names)
private_reply None p GetError event = Numbers (pos (code_of_error p.error) ∷ [])
private_reply None p (GetFixedv pname params) event = numbers_replied (fixed_asked p pname)
private_reply None p (GetIntegerv pname params) event = numbers_replied (integers_asked p pname)
private_reply None p (GetPointerv pname params) event = numbers_replied (alone (pointer_asked p.tracked pname))
private_reply None p (IsBuffer buffer) event = Numbers (number_of_truth event.truth ∷ [])
private_reply None p (IsEnabled cap) event = numbers_replied (truth_asked p cap)
private_reply None p (IsTexture texture) event = Numbers (number_of_truth event.truth ∷ [])
private_reply None p _ event = Nothing

-- the most numbers that a call without an error replies as a list, 0 where it replies one number or nothing; sections 2.9, 3.7.11 and 6.1
abbrev pub list_length : Call → ℕ
list_length (GenBuffers n names) = count_of n
list_length (GenTextures n names) = count_of n
list_length (GetFixedv pname params) = fixed_length pname
list_length (GetIntegerv pname params) = integers_length pname
list_length _ = 0

-- what a call needs beyond the private state, with this error or none, where it asks for no number of tracked state: what binds, fills, sets, names and deletes objects, or asks whether a name is that of one, may make an event of them; Clear and draws change the pixels of the frame, ReadPixels reads them, all others need nothing, of which the queries are answered; own
abbrev pub plan_by : Option GlError → Call → Plan
plan_by (Some error) call = Fault error
plan_by None (BindBuffer target buffer) = Asks
plan_by None (BindTexture target texture) = Asks
plan_by None (BufferData target size source usage) = Asks
plan_by None (BufferSubData target offset size source) = Asks
plan_by None (Clear mask) = Draw
plan_by None (DeleteBuffers n names) = Asks
plan_by None (DeleteTextures n names) = Asks
plan_by None (DrawArrays mode first count) = Draw
plan_by None (DrawElements mode count kind indices) = Draw
plan_by None (GenBuffers n names) = Asks
plan_by None (GenTextures n names) = Asks
plan_by None GetError = Query
plan_by None (GetFixedv pname params) = Query
plan_by None (GetIntegerv pname params) = Query
plan_by None (GetPointerv pname params) = Query
plan_by None (IsBuffer buffer) = Asks
plan_by None (IsEnabled cap) = Query
plan_by None (IsTexture texture) = Asks
plan_by None (ReadPixels x y width height format kind pixels) = Read
plan_by None (TexImage2D target level internalformat width height border format kind pixels) = Asks
plan_by None (TexParameteri target pname param) = Asks
plan_by None (TexSubImage2D target level xoffset yoffset width height format kind pixels) = Asks
plan_by None _ = Local

-- how a call is carried out that asks for this number of tracked state, or for none, with this error or none: a number is its answer; own
abbrev pub plan_found : Option ℤ → Option GlError → Call → Plan
plan_found (Some number) fault call = Known number
plan_found None fault call = plan_by fault call

-- how a call is carried out, as the private state and the call show it; own
unfoldable pub plan_of : PrivateView → Call → Plan
plan_of p call = plan_found (number_asked p.tracked call) (fault_of p.tracked call) call

-- the error of a plan, where it has one; own
abbrev pub fault_in : Plan → Option GlError
fault_in (Fault error) = Some error
fault_in (Known number) = None
fault_in Query = None
fault_in Read = None
fault_in Asks = None
fault_in Draw = None
fault_in Local = None

-- how many numbers a call with this plan replies as a list: only queries, and what asks objects for names, reply one; sections 2.9, 3.7.11 and 6.1
abbrev pub room_of : Plan → Call → ℕ
room_of Query call = list_length call
room_of Asks call = list_length call
room_of _ call = 0
