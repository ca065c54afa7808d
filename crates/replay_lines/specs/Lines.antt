-- What the lines of a context do, one after another, over any driver's relation; own. What they tell, and what becomes of tracked state and client memory, is a function of the replies that their calls are given. No batch, shadow, capture or class stands here.
use Rattle.std.specs.Prelude.{◌≡◌, ℕ, ◌==◌, List, [], ◌∷◌, ◌++◌, filter}
use Rattle.gl_memory.specs.ClientMemory.{memory_of, written}
use Rattle.gl_tracked.specs.declared.tracked.Tracked.{Tracked}
use Rattle.gl_tracked.specs.Step.{tracked_after}
use Rattle.driver_trait.specs.Driver.{Steps}
use Rattle.driver_trait.specs.Output.{memory_after}
use Rattle.driver_trait.specs.Reply.{Replied, Nothing}
use Rattle.script_reader.specs.declared.script.Act.{Act}
use Rattle.script_reader.specs.declared.script.Act.TheVariants.{Mem, Image, Gl}
use Rattle.script_reader.specs.declared.script.Line.{Line}
use Rattle.replay_lines.specs.Results.{DoneView, Picture, told_of, taken_bytes}

-- the lines of a context, in order; own
abbrev pub lines_in : ℕ → List Line → List Line
lines_in context lines = filter (λ line. line.context == context) lines

-- a line that is run, and the reply that its call is given: Nothing where it makes no call; own
pub record Ran : Type 0 where
  pub line : Line
  pub reply : Replied

-- a context between two of its lines, but for its driver: its tracked state, and the bytes of its client memory; own
pub record Standing : Type 0 where
  pub tracked : Tracked
  pub memory : List ℕ

-- what a line leaves: a mem line writes client memory, an image line changes nothing, and a call goes by client memory as it stands, and then its reply is written; own
abbrev pub after_act : Standing → Act → Replied → Standing
after_act here (Mem at bytes) reply = record here { memory = written here.memory at bytes.items }
after_act here (Image name width height at) reply = here
after_act here (Gl call) reply = record { tracked = tracked_after here.tracked call (memory_of here.memory); memory = memory_after here.tracked call reply here.memory }

-- what lines leave, one after another; own
unfoldable pub after_lines : Standing → List Ran → Standing
after_lines here [] = here
after_lines here (one ∷ others) = after_lines (after_act here one.line.act one.reply) others

-- what a line of this number and context tells: an image line the image that it takes out of client memory, and a call what is told of its reply; own
abbrev pub told_at : List ℕ → ℕ → ℕ → Act → Replied → List DoneView
told_at memory number context (Mem at bytes) reply = []
told_at memory number context (Image name width height at) reply = record { number = number; context = context; shown = Picture name width height (taken_bytes memory width height at) } ∷ []
told_at memory number context (Gl call) reply = told_of number context call reply

-- what lines tell, one after another; own
unfoldable pub told_by_lines : Standing → List Ran → List DoneView
told_by_lines here [] = []
told_by_lines here (one ∷ others) = told_at here.memory one.line.number one.line.context one.line.act one.reply ++ told_by_lines (after_act here one.line.act one.reply) others

module _ {S : Type 0} (tracked : S → Tracked) (steps : Steps S) where
  -- a line leads a driver from a state to a state: a call by a step on client memory as it stands, with this reply, from a state whose tracked part is the context's; a line without a call changes no state; own
  abbrev pub StepsAt : Standing → Act → Replied → S → S → Type 0
  StepsAt here (Mem at bytes) reply st st2 = (st2 ≡ st) × (reply ≡ Nothing)
  StepsAt here (Image name width height at) reply st st2 = (st2 ≡ st) × (reply ≡ Nothing)
  StepsAt here (Gl call) reply st st2 = (tracked st ≡ here.tracked) × steps st call (memory_of here.memory) st2 reply

  -- lines lead a driver from a state to a state, one after another; own
  unfoldable pub StepsThrough : Standing → List Ran → S → S → Type 0
  StepsThrough here [] st st2 = st2 ≡ st
  StepsThrough here (one ∷ others) st st2 = (mid : S) × StepsAt here one.line.act one.reply st mid × StepsThrough (after_act here one.line.act one.reply) others mid st2
