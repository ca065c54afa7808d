-- The images that the direct machine tells are whole.
use Rattle.std.proofs.Common.{◌≡◌, ℕ, ◌*◌, ◌==◌, Bool, true, false, cond, List, [], ◌∷◌, sym, subst}
use Rattle.std.specs.List.{All}
use Rattle.std.proofs.lemmas.List.Elements.{All-append, All-cons, All-filter, All-head, All-nil, All-tail, All-weaker}
use Rattle.gl_memory.specs.ClientMemory.{memory_of}
use Rattle.gl_memory.proofs.Cuts.{length-bytes_from}
use Rattle.gl_words.specs.Call.{is_answering}
use Rattle.driver_trait.specs.Reply.{Replied}
use Rattle.gl_words.specs.declared.call.Call.{Call}
use Rattle.script_reader.specs.Limits.{IsAct, IsLine}
use Rattle.script_reader.specs.declared.script.Act.{Act}
use Rattle.script_reader.specs.declared.script.Act.TheVariants.{Mem, Image, Gl}
use Rattle.script_reader.specs.declared.script.Line.{Line}
use Rattle.soft_driver.specs.Own.{own_step}
use Rattle.replay_lines.specs.Limits.{IsSmall, TakesLittle}
use Rattle.replay_lines.specs.Lines.{lines_in}
use Rattle.replay_lines.specs.Results.{Answer, DoneView, printed}
use Rattle.replay_core.specs.Direct.{Reached, carried_out, past_line, past_lines, start_of, end_of}
use Rattle.replay_core.specs.Images.{IsWhole}
use Rattle.replay_core.specs.Script.{Scripted}

-- what is told is no image, or a whole one
abbrev pub AreWhole : List DoneView → Type 0
AreWhole told = All (λ done. IsWhole done.shown) told

-- a call tells no image
no_image : (number context : ℕ) (call : Call) (reply : Replied) (answers : Bool) → AreWhole (cond answers (record { number = number; context = context; shown = Answer call (printed call reply) } ∷ []) [])
no_image number context call reply true = All-cons (λ (done : DoneView). IsWhole done.shown) _ [] tt (All-nil (λ (done : DoneView). IsWhole done.shown))
no_image number context call reply false = All-nil (λ (done : DoneView). IsWhole done.shown)

-- a line more
whole_past : (here : Reached) (number context : ℕ) (act : Act) → IsAct act → AreWhole here.told → AreWhole (carried_out here number context act).told
whole_past here number context (Mem at bytes) within before = before
whole_past here number context (Image name width height at) within before =
    All-append (λ (done : DoneView). IsWhole done.shown) here.told _ before
    (All-cons (λ (done : DoneView). IsWhole done.shown) _ [] (record { sides = record { wide = within.some_columns; no_wider = within.few_columns; high = within.some_rows; no_higher = within.few_rows }; whole = length-bytes_from (memory_of here.memory) at (width * height * 4) }) (All-nil (λ (done : DoneView). IsWhole done.shown)))
whole_past here number context (Gl call) within before =
    All-append (λ (done : DoneView). IsWhole done.shown) here.told _ before (no_image number context call (own_step here.own call (memory_of here.memory) here.objects).reply (is_answering call))

-- lines, one after another
whole_past_lines : (here : Reached) (lines : List Line) → All IsLine lines → AreWhole here.told → AreWhole (past_lines here lines).told
unfolding past_lines
whole_past_lines here [] within before = before
whole_past_lines here (line ∷ lines) within before = whole_past_lines (past_line here line) lines (All-tail IsLine line lines within) (whole_past here line.number line.context line.act (All-head IsLine line lines within) before)

-- at the end of a script's context
end_is_whole : (context : ℕ) (script : Scripted) → All IsLine script.lines → AreWhole (end_of context script).told
unfolding end_of
end_is_whole context script within =
    whole_past_lines (start_of context script) (lines_in context script.lines) (All-filter (λ (line : Line). line.context == context) IsLine script.lines within) (All-nil (λ (done : DoneView). IsWhole done.shown))

pub all_told_is_whole : (context : ℕ) (script : Scripted) (told : List DoneView) → told ≡ (end_of context script).told → All IsLine script.lines → AreWhole told
all_told_is_whole context script told is_told within = subst AreWhole (sym is_told) (end_is_whole context script within)

-- a line within its limits takes a small image
small_act : (act : Act) → IsAct act → TakesLittle act
small_act (Mem at bytes) within = tt
small_act (Image name width height at) within = record { few_columns = within.few_columns; few_rows = within.few_rows }
small_act (Gl call) within = tt

pub all_small : (lines : List Line) → All IsLine lines → All IsSmall lines
all_small lines within = All-weaker IsLine IsSmall (λ (line : Line). small_act line.act) lines within
