-- What a run leaves, from what its parts leave.
use Rattle.std.proofs.Common.{◌≡◌, ℕ, ◌+◌, ◌<◌, ◌≤◌, List, ◌++◌, length, take, Option, Some, None, Ok, Err, sym, ap, subst, ◌∙◌, arith, inl, inr, ◌⊎◌}
use Rattle.std.proofs.lemmas.List.{take_all}
use Rattle.std.proofs.lemmas.Bool.{cases_lt}
use Rattle.std.proofs.Math.Seq.{take-append_seam}
use Rattle.gl_outside.specs.Moved.{Takes, IsAtEnd}
use Rattle.replay_text.specs.declared.status.Status.{Status}
use Rattle.replay_text.specs.declared.status.Status.TheVariants.{Ok as Done, ShelfFault, WriteFault, NoMemory}
use Rattle.replay_text.specs.declared.asked.Command.{Command}
use Rattle.replay_core.specs.Deliver.{Delivers, Stored}
use Rattle.replay_core.specs.World.{File, NothingFailed, World}
use Rattle.script_reader.specs.declared.script.ContextSpec.{ContextSpec}
use Rattle.script_reader.specs.Limits.{HasOneContext}
use Rattle.replay_core.specs.Script.{IsOneContext, only_number}
use Rattle.script_reader.specs.Grammar.{script_of}
use Rattle.script_reader.specs.declared.error.ScriptError.{ScriptError}
use Rattle.script_reader.specs.declared.script.Script.{Script}
use Rattle.script_reader.proofs.Within.{what_is_spelled_is_within}
use Rattle.replay_core.specs.Journals.{HandsOver}
use Rattle.replay_core.specs.Outcome.{most_bytes, images_due, report_due, batches_due, ReadsScript, ReadsNoScript, Runs, Replays, PutsSome, WritesSome, StopsAnywhere}

-- a script has no more bytes than it may have
pub script_fits : (bytes : List ℕ) (script : Script) → script_of bytes ≡ Ok script → length bytes ≤ most_bytes
script_fits bytes script h = (what_is_spelled_is_within bytes script h).few_bytes

-- the bytes that are a script were read to the end
pub reads_script : (left_before left_after : Option (List ℕ)) (bytes : List ℕ) (script : Script) → Takes left_before left_after bytes → (length bytes < most_bytes + 1 → IsAtEnd left_after) → script_of bytes ≡ Ok script → ReadsScript script left_before left_after
reads_script before after bytes script taken ends is_script = record {
  bytes = bytes;
  taken = taken;
  at_end = ends (omega (arith, script_fits bytes script is_script));
  is_script = is_script;
}

-- the bytes that are refused were read to the end, or up to one more than a script may have
pub reads_no_script : (left_before left_after : Option (List ℕ)) (bytes : List ℕ) (error : ScriptError) → Takes left_before left_after bytes → length bytes ≤ most_bytes + 1 → (length bytes < most_bytes + 1 → IsAtEnd left_after) → (length bytes < most_bytes + 1) ⊎ (most_bytes + 1 ≤ length bytes) → script_of bytes ≡ Err error → ReadsNoScript error left_before left_after
reads_no_script before after bytes error taken within ends (inl fewer) refused = record { bytes = bytes; taken = taken; no_more = within; enough = inl (ends fewer); is_refused = refused }
reads_no_script before after bytes error taken within ends (inr enough) refused = record { bytes = bytes; taken = taken; no_more = within; enough = inr (omega arith); is_refused = refused }

-- bytes that are fewer than a limit or as many, and are all of what was left where they are fewer, are the first of it
first_of_left : (limit : ℕ) (left bytes rest : List ℕ) → left ≡ bytes ++ rest → length bytes ≤ limit → (length bytes < limit → left ≡ bytes) → (length bytes < limit) ⊎ (limit ≤ length bytes) → bytes ≡ take limit left
first_of_left limit left bytes rest taken within whole (inl fewer) =
    let e = whole fewer in
    let inside : length left ≤ limit = omega (arith, ap length e) in
    sym (take_all limit left inside ∙ e)
first_of_left limit left bytes rest taken within whole (inr enough) =
    let same : limit ≡ length bytes = omega arith in
    let at_limit : take limit left ≡ take (length bytes) (bytes ++ rest) = ap (λ n. take n left) same ∙ ap (λ l. take (length bytes) l) taken in
    sym (at_limit ∙ take-append_seam bytes rest)

-- the bytes that were read up to a limit are the first of those that were left
pub read_is_take : (limit : ℕ) (left bytes : List ℕ) (after : Option (List ℕ)) → length bytes ≤ limit → Takes (Some left) after bytes → (length bytes < limit → left ≡ bytes) → bytes ≡ take limit left
unfolding Takes
read_is_take limit left bytes None within taken whole = absurd taken
read_is_take limit left bytes (Some rest) within taken whole = first_of_left limit left bytes rest taken within whole (cases_lt (length bytes) limit)

-- what was read is refused with the error with which what was left is
pub refused_is_read : (left bytes : List ℕ) (after : Option (List ℕ)) (error : ScriptError) → length bytes ≤ most_bytes + 1 → Takes (Some left) after bytes → (length bytes < most_bytes + 1 → left ≡ bytes) → script_of (take (most_bytes + 1) left) ≡ Err error → script_of bytes ≡ Err error
refused_is_read left bytes after error within taken whole refused =
    ap (λ bs. script_of bs) (read_is_take (most_bytes + 1) left bytes after within taken whole) ∙ refused

-- what was read is accepted where what was left is
pub accepted_is_read : (left bytes : List ℕ) (after : Option (List ℕ)) (script : Script) → length bytes ≤ most_bytes + 1 → Takes (Some left) after bytes → (length bytes < most_bytes + 1 → left ≡ bytes) → script_of left ≡ Ok script → script_of bytes ≡ Ok script
accepted_is_read left bytes after script within taken whole accepted =
    let fits : length left ≤ most_bytes + 1 = omega (arith, script_fits left script accepted) in
    let all : take (most_bytes + 1) left ≡ left = take_all (most_bytes + 1) left fits in
    ap (λ bs. script_of bs) (read_is_take (most_bytes + 1) left bytes after within taken whole ∙ all) ∙ accepted

-- a script that was read and run by an equal command
pub runs_script : (command asked : Command) (script : Script) (before after : World) → command ≡ asked → ReadsScript script before.left after.left → HandsOver only_number (batches_due command script) before.journal after.journal → Runs asked script before after
runs_script command asked script before after same read handed_over = record {
  read = read;
  handed_over = subst (λ (k : Command). HandsOver only_number (batches_due k script) before.journal after.journal) same handed_over;
}

-- what the sink and the shelf tell of a world
abbrev pub stored_in : World → Stored
stored_in world = record { held = world.held; files = world.files }

-- what stands of the images and the report of a script that was run
module _ (asked : Command) (script : Script) (before after : World) (runs : Runs asked script before after) (status : Status) (images : List File) (report : List ℕ)
    (are_images : images ≡ images_due script) (is_report : report ≡ report_due asked script) (delivers : Delivers status images report (stored_in before) (stored_in after)) where
  -- the same of the images and the report that are due
  delivers_due : Delivers status (images_due script) (report_due asked script) (stored_in before) (stored_in after)
  delivers_due =
      subst (λ (r : List ℕ). Delivers status (images_due script) r (stored_in before) (stored_in after)) is_report
      (subst (λ (i : List File). Delivers status i report (stored_in before) (stored_in after)) are_images delivers)

  -- the same of a status that is known
  delivers_as : (known : Status) → status ≡ known → Delivers known (images_due script) (report_due asked script) (stored_in before) (stored_in after)
  delivers_as known same = subst (λ (s : Status). Delivers s (images_due script) (report_due asked script) (stored_in before) (stored_in after)) same delivers_due

  pub replays : status ≡ Done → NothingFailed before after → Replays asked before after
  replays is_done sound =
      let stands = delivers_as Done is_done in
      record { script = script; runs = runs; put = stands.put; written = stands.written; sound = sound }

  pub puts_some : (stored : ℕ) → status ≡ ShelfFault stored → PutsSome asked stored before after
  puts_some stored is_fault =
      let stands = delivers_as (ShelfFault stored) is_fault in
      record { script = script; runs = runs; fewer = stands.fewer; put = stands.put }

  pub writes_some : status ≡ WriteFault → WritesSome asked before after
  writes_some is_fault =
      let stands = delivers_as WriteFault is_fault in
      record { script = script; runs = runs; put = stands.put; written = stands.written }

  pub stops_anywhere : status ≡ NoMemory → NothingFailed before after → StopsAnywhere asked before after
  stops_anywhere is_none sound = (
    sound,
    elim (delivers_as NoMemory is_none) [
      | inl part ↦ inr (inl (record { script = script; runs = runs; put = part.put; unwritten = part.unwritten }))
      | inr all ↦ inr (inr (record { script = script; runs = runs; put = all.put; written = all.written }))
    ],
  )

-- contexts that are one within the limits of a script
pub one_context : (contexts : List ContextSpec) → HasOneContext contexts → IsOneContext contexts
one_context contexts h = record {
  context = h.0;
  only = h.1;
  sides = record { wide = h.2.some_columns; no_wider = h.2.few_columns; high = h.2.some_rows; no_higher = h.2.few_rows };
  memory = h.2.little_memory;
}
