-- Lines that were run through a front: where they lead, and what was counted and handed over, whatever calls come later; own.
use Rattle.std.specs.Prelude.{◌≡◌, ◌⊎◌, ℕ, ◌+◌, true, List, [], ◌∷◌, ◌++◌, length, map, Option}
use Rattle.gl_words.specs.Call.{is_answering}
use Rattle.gl_words.specs.declared.call.Call.{Call}
use Rattle.client_shadow.specs.Cutting.{Issued, batches_from, count_of}
use Rattle.client_shadow.specs.declared.class.Class.TheVariants.{Answer, Sync, Defer}
use Rattle.batch_pack.specs.Spelling.{Spelled}
use Rattle.batch_rail.specs.Rail.{Gains}
use Rattle.gl_tracked.specs.declared.tracked.Tracked.{Tracked}
use Rattle.driver_trait.specs.Driver.{Steps}
use Rattle.gl_front.specs.declared.counts.Counts.{Counts}
use Rattle.gl_front.specs.Front.{FrontView, StandsFor}
use Rattle.gl_front.specs.Taking.{EndsBatch, RefusesCall}
use Rattle.script_reader.specs.declared.script.Act.TheVariants.{Gl}
use Rattle.script_reader.specs.declared.script.Line.{Line}
use Rattle.replay_lines.specs.Lines.{Ran, Standing, after_lines, told_by_lines, StepsThrough}
use Rattle.replay_lines.specs.Moments.{issued_by_lines}
use Rattle.replay_lines.specs.Results.{DoneView}

-- the counts rose by the numbers of these calls, whatever calls come later; own
pub record CountsOn (size : ℕ) (old_open new_open : List Spelled) (calls : List Issued) (old new : Counts) : Type 0 where
  pub deferred : new.deferred ≡ old.deferred + count_of Defer calls
  pub synchronised : new.synchronised ≡ old.synchronised + count_of Sync calls
  pub answered : new.answered ≡ old.answered + count_of Answer calls
  pub batches : (later : List Issued) → new.batches + length (batches_from size new_open later) ≡ old.batches + length (batches_from size old_open (calls ++ later))

-- a journal that is told was extended by batches of these calls, whatever calls come later; own
pub record TellsOn (size : ℕ) (old_open new_open : List Spelled) (calls : List Issued) (old new : Option (List (List Spelled))) : Type 0 where
  pub given : List (List Spelled)
  pub told : Gains old new given
  pub rest : (later : List Issued) → given ++ batches_from size new_open later ≡ batches_from size old_open (calls ++ later)

-- a front's context as it stands: the tracked state that it keeps, and client memory; own
abbrev pub standing_of : {R : Type 0} → FrontView R → Standing
standing_of front = record { tracked = front.tracked; memory = front.memory }

module _ {R S : Type 0} (tracked : S → Tracked) (steps : Steps S) (stands : R → S → Type 0) (tells : R → Option (List (List Spelled))) where
  -- lines were run, with some replies: the results were extended by what they tell, and tracked state and client memory went on, as these replies give it. Each state stood for was reached by them, with just these replies, from one that was stood for. Their calls were counted, and their batches handed over, which keep their size; own
  pub record RunsOn (lines : List Line) (old new : FrontView R) (old_told new_told : List DoneView) : Type 0 where
    pub ran : List Ran
    pub each : map (λ (one : Ran). one.line) ran ≡ lines
    pub told : new_told ≡ old_told ++ told_by_lines (standing_of old) ran
    pub stand : standing_of new ≡ after_lines (standing_of old) ran
    pub leads : (st2 : S) → StandsFor stands steps new st2 → (st : S) × StandsFor stands steps old st × StepsThrough tracked steps (standing_of old) ran st st2
    pub counts : CountsOn old.size old.calls new.calls (issued_by_lines old.size (standing_of old) ran) old.counts new.counts
    pub batches : TellsOn old.size old.calls new.calls (issued_by_lines old.size (standing_of old) ran) (tells old.rail) (tells new.rail)
    pub size : new.size ≡ old.size

module _ {R S : Type 0} (stands : R → S → Type 0) (fails : R → Type 0) (tells : R → Option (List (List Spelled))) (sends : R → ℕ) (steps : Steps S) where
  -- a front refused the call of a line, at which it submitted the open batch alone; own
  pub record RefusesLine (old new : FrontView R) (line : Line) : Type 0 where
    pub call : Call
    pub act : line.act ≡ Gl call
    pub refuses : RefusesCall stands fails tells sends steps old new call
    pub ends : EndsBatch tells sends old new

module _ {R S : Type 0} (tracked : S → Tracked) (steps : Steps S) (stands : R → S → Type 0) (fails : R → Type 0) (tells : R → Option (List (List Spelled))) (sends : R → ℕ) where
  -- a line was run that makes a call which asks for something, but its answer wasn't added to what was told; own
  pub record RunsUntold (old new : FrontView R) (line : Line) : Type 0 where
    pub call : Call
    pub act : line.act ≡ Gl call
    pub asks : is_answering call ≡ true
    pub answer : List DoneView
    pub runs : RunsOn tracked steps stands tells (line ∷ []) old new [] answer

  -- where memory was wanting at a line: the front did nothing, or refused its call, or its call was answered and the answer was lost; own
  abbrev pub StopsAt : FrontView R → FrontView R → Line → Type 0
  StopsAt old new line = (new ≡ old) ⊎ (RefusesLine stands fails tells sends steps old new line ⊎ RunsUntold old new line)

  -- memory was wanting at a line, which told nothing: those before it were run, and told what they tell, and no other was; own
  pub record StopsOn (lines : List Line) (old new : FrontView R) (old_told new_told : List DoneView) : Type 0 where
    pub before : List Line
    pub line : Line
    pub behind : List Line
    pub all : lines ≡ before ++ line ∷ behind
    pub mid : FrontView R
    pub runs : RunsOn tracked steps stands tells before old mid old_told new_told
    pub stops : StopsAt mid new line
