-- Where the relation is the renderer's, lines lead to where the direct machine comes.
use Rattle.std.proofs.Common.{◌≡◌, ℕ, List, [], ◌∷◌, ◌++◌, map, refl, sym, ap, ◌∙◌, append_assoc, replicate}
use Rattle.std.proofs.lemmas.List.{append-nil}
use Rattle.gl_memory.specs.ClientMemory.{memory_of, written}
use Rattle.client_shadow.specs.Cutting.{Issued}
use Rattle.driver_trait.specs.Reply.{Replied}
use Rattle.driver_trait.specs.Output.{memory_after}
use Rattle.gl_tracked.specs.declared.tracked.Tracked.{Tracked}
use Rattle.gl_tracked.specs.Tracked.{first_tracked}
use Rattle.gl_state.specs.Private.{first_private}
use Rattle.script_reader.specs.declared.script.Act.{Act}
use Rattle.script_reader.specs.declared.script.Act.TheVariants.{Mem, Image, Gl}
use Rattle.script_reader.specs.declared.script.Line.{Line}
use Rattle.gl_objects.specs.Step.{no_objects}
use Rattle.gl_objects.specs.View.{ObjectsView}
use Rattle.soft_driver.specs.Own.{first_own}
use Rattle.soft_driver.specs.Renderer.{SoftSteps, SoftView, first_soft, soft_after, soft_reply, soft_tracked}
use Rattle.replay_lines.specs.Lines.{Ran, Standing, after_act, after_lines, told_at, told_by_lines, StepsAt, StepsThrough, lines_in}
use Rattle.replay_lines.specs.Moments.{Moment, moments_at, moments_by, issued_in, issued_by_lines}
use Rattle.replay_lines.specs.Results.{DoneView, told_of}
use Rattle.replay_core.specs.Calls.{moments_here, moments_past, calls_of}
use Rattle.replay_core.specs.Direct.{Reached, carried_out, past_line, past_lines, start_of, end_of}
use Rattle.replay_core.specs.Rail.{at_start}
use Rattle.replay_core.specs.Script.{Scripted}

-- a place reached, said by its parts
abbrev pub reached_at : SoftView → List ℕ → List DoneView → Reached
reached_at soft memory told = record { own = soft.own; objects = soft.objects; memory = memory; told = told }

-- places reached are equal where their parts are
reached_eq : (own own2 : SoftView) (memory memory2 : List ℕ) (told told2 : List DoneView) → own ≡ own2 → memory ≡ memory2 → told ≡ told2 → reached_at own memory told ≡ reached_at own2 memory2 told2
reached_eq own own2 memory memory2 told told2 same_own same_memory same_told =
    ap (λ (o : SoftView). reached_at o memory told) same_own
    ∙ ap (λ (m : List ℕ). reached_at own2 m told) same_memory
    ∙ ap (λ (t : List DoneView). reached_at own2 memory2 t) same_told

-- what a line leads to
act_is_direct : (number context : ℕ) (act : Act) (reply : Replied) (here : Standing) (st st2 : SoftView) (before : List DoneView)
    → StepsAt soft_tracked SoftSteps here act reply st st2
    → carried_out (reached_at st here.memory before) number context act ≡ reached_at st2 (after_act here act reply).memory (before ++ told_at here.memory number context act reply)
unfolding soft_after soft_reply
act_is_direct number context (Mem at bytes) reply here st st2 before (same, none) =
    reached_eq st st2 (written here.memory at bytes.items) (written here.memory at bytes.items) before (before ++ []) (sym same) refl (sym (append-nil before))
act_is_direct number context (Image name width height at) reply here st st2 before (same, none) =
    ap (λ (o : SoftView). carried_out (reached_at o here.memory before) number context (Image name width height at)) (sym same)
act_is_direct number context (Gl call) reply here st st2 before (known, step) =
    let reached = soft_after st call (memory_of here.memory) in
    let gives = soft_reply st call (memory_of here.memory) in
    reached_eq reached st2
    (memory_after st.own.state.tracked call gives here.memory) (memory_after here.tracked call reply here.memory)
    (before ++ told_of number context call gives) (before ++ told_of number context call reply)
    (sym (step.0))
    (ap (λ (t : Tracked). memory_after t call gives here.memory) known ∙ ap (λ (r : Replied). memory_after here.tracked call r here.memory) (sym (step.1)))
    (ap (λ (r : Replied). before ++ told_of number context call r) (sym (step.1)))

-- the moment of a line
moment_is_direct : (act : Act) (reply : Replied) (here : Standing) (st st2 : SoftView) (before : List DoneView) → StepsAt soft_tracked SoftSteps here act reply st st2 → moments_here (reached_at st here.memory before) act ≡ moments_at here act
moment_is_direct (Mem at bytes) reply here st st2 before step = refl
moment_is_direct (Image name width height at) reply here st st2 before step = refl
moment_is_direct (Gl call) reply here st st2 before (known, step) = ap (λ (t : Tracked). let m : Moment = record { tracked = t; memory = here.memory; call = call } in m ∷ []) known

-- the lines of those that were run
abbrev pub lines_of : List Ran → List Line
lines_of ran = map (λ (one : Ran). one.line) ran

-- what lines lead to
pub lines_are_direct : (ran : List Ran) (here : Standing) (st st2 : SoftView) (before : List DoneView) → StepsThrough soft_tracked SoftSteps here ran st st2
    → past_lines (reached_at st here.memory before) (lines_of ran) ≡ reached_at st2 (after_lines here ran).memory (before ++ told_by_lines here ran)
unfolding past_lines after_lines told_by_lines StepsThrough
lines_are_direct [] here st st2 before same = reached_eq st st2 here.memory here.memory before (before ++ []) (sym same) refl (sym (append-nil before))
lines_are_direct (one ∷ ran) here st st2 before (mid, step, rest) =
    let first = told_at here.memory one.line.number one.line.context one.line.act one.reply in
    let next = after_act here one.line.act one.reply in
    ap (λ (r : Reached). past_lines r (lines_of ran)) (act_is_direct one.line.number one.line.context one.line.act one.reply here st mid before step)
    ∙ lines_are_direct ran next mid st2 (before ++ first) rest
    ∙ ap (λ (t : List DoneView). reached_at st2 (after_lines next ran).memory t) (append_assoc before first (told_by_lines next ran))

-- the moments of lines
pub moments_are_direct : (ran : List Ran) (here : Standing) (st st2 : SoftView) (before : List DoneView) → StepsThrough soft_tracked SoftSteps here ran st st2 → moments_past (reached_at st here.memory before) (lines_of ran) ≡ moments_by here ran
unfolding moments_past moments_by StepsThrough
moments_are_direct [] here st st2 before same = refl
moments_are_direct (one ∷ ran) here st st2 before (mid, step, rest) =
    let first = told_at here.memory one.line.number one.line.context one.line.act one.reply in
    let next = after_act here one.line.act one.reply in
    ap (λ (m : List Moment). m ++ moments_past (past_line (reached_at st here.memory before) one.line) (lines_of ran)) (moment_is_direct one.line.act one.reply here st mid before step)
    ∙ ap (λ (r : Reached). moments_at here one.line.act ++ moments_past r (lines_of ran)) (act_is_direct one.line.number one.line.context one.line.act one.reply here st mid before step)
    ∙ ap (λ (m : List Moment). moments_at here one.line.act ++ m) (moments_are_direct ran next mid st2 (before ++ first) rest)

-- a new context has the first tracked state
pub first_soft-tracked : (context width height : ℕ) (objects : ObjectsView) → soft_tracked (first_soft context width height objects) ≡ first_tracked
unfolding first_own first_private
first_soft-tracked context width height objects = refl

-- lines that were run from the start of a script's context on led to its end
module _ (context : ℕ) (script : Scripted) (ran : List Ran) (st st2 : SoftView) (memory : List ℕ)
    (is_first : st ≡ first_soft context script.width script.height no_objects) (is_blank : memory ≡ replicate script.memory 0) (each : lines_of ran ≡ lines_in context script.lines)
    (led : StepsThrough soft_tracked SoftSteps (at_start memory) ran st st2) where
  -- the start of the script
  start_is : reached_at st memory [] ≡ start_of context script
  start_is = reached_eq st (first_soft context script.width script.height no_objects) memory (replicate script.memory 0) [] [] is_first is_blank refl

  pub end_is : end_of context script ≡ reached_at st2 (after_lines (at_start memory) ran).memory (told_by_lines (at_start memory) ran)
  unfolding end_of
  end_is =
      ap (λ (r : Reached). past_lines r (lines_in context script.lines)) (sym start_is)
      ∙ ap (λ (l : List Line). past_lines (reached_at st memory []) l) (sym each)
      ∙ lines_are_direct ran (at_start memory) st st2 [] led

  pub calls_are : (size : ℕ) → calls_of size context script ≡ issued_by_lines size (at_start memory) ran
  unfolding calls_of
  calls_are size =
      let issued : List Moment → List Issued = λ moments. map (issued_in size) moments in
      ap (λ (r : Reached). issued (moments_past r (lines_in context script.lines))) (sym start_is)
      ∙ ap (λ (l : List Line). issued (moments_past (reached_at st memory []) l)) (sym each)
      ∙ ap issued (moments_are_direct ran (at_start memory) st st2 [] led)
