-- A front that is made over a rail, runs lines, is flushed and gives the rail back.
use Rattle.std.proofs.Common.{◌≡◌, inl, inr, ℕ, List, [], ◌++◌, length, refl, sym, ap, subst, ◌∙◌, zero-add, Option}
use Rattle.std.proofs.lemmas.List.{append-nil}
use Rattle.batch_pack.specs.Spelling.{Spelled}
use Rattle.batch_rail.specs.Rail.{Gains}
use Rattle.batch_rail.specs.Run.{RunsFrom}
use Rattle.batch_rail.proofs.Journals.{Gains-none, Gains-along, Gains-then}
use Rattle.client_shadow.specs.declared.class.Class.TheVariants.{Answer, Sync, Defer}
use Rattle.client_shadow.specs.Cutting.{Issued, batch_unless_empty, batches_from, count_of, tally_of}
use Rattle.gl_tracked.specs.declared.tracked.Tracked.{Tracked}
use Rattle.driver_trait.specs.Driver.{Steps}
use Rattle.gl_front.specs.declared.counts.Counts.{Counts}
use Rattle.gl_front.specs.Front.{FrontView, new_front, counts_flushed, no_counts}
use Rattle.gl_front.specs.Taking.{Flushes}
use Rattle.script_reader.specs.declared.script.Line.{Line}
use Rattle.replay_lines.specs.Moments.{issued_by_lines}
use Rattle.replay_lines.specs.Results.{DoneView}
use Rattle.replay_lines.specs.Running.{CountsOn, TellsOn, RunsOn, StopsOn}
use Rattle.replay_core.specs.Rail.{at_start, GainsSome, RunsOver}
use Rattle.replay_core.specs.Report.{counted}
use Rattle.replay_core.specs.World.{Batches}

-- the counts of a new front that ran calls and was flushed are the numbers of the calls
counts_from_new : (size : ℕ) (batch : List Spelled) (calls : List Issued) (later flushed : Counts) → CountsOn size [] batch calls no_counts later → flushed ≡ counts_flushed later (length (batch_unless_empty batch)) → counted flushed ≡ tally_of size calls
unfolding tally_of batches_from
counts_from_new size batch calls later flushed up flush =
    let d : flushed.deferred ≡ count_of Defer calls = ap (λ (c : Counts). c.deferred) flush ∙ (up.deferred ∙ zero-add (count_of Defer calls)) in
    let s : flushed.synchronised ≡ count_of Sync calls = ap (λ (c : Counts). c.synchronised) flush ∙ (up.synchronised ∙ zero-add (count_of Sync calls)) in
    let a : flushed.answered ≡ count_of Answer calls = ap (λ (c : Counts). c.answered) flush ∙ (up.answered ∙ zero-add (count_of Answer calls)) in
    let b : flushed.batches ≡ length (batches_from size [] calls) = ap (λ (c : Counts). c.batches) flush ∙ (up.batches [] ∙ zero-add _ ∙ ap (λ (all : List Issued). length (batches_from size [] all)) (append-nil calls)) in
    cc

-- the batches of calls that were told, and the open one behind them, are all
told_in_all : (size : ℕ) (batch : List Spelled) (calls : List Issued) (launched later flushed : Option Batches) → TellsOn size [] batch calls launched later → Gains later flushed (batch_unless_empty batch) → Gains launched flushed (batches_from size [] calls)
unfolding batches_from
told_in_all size batch calls launched later flushed run flush =
    Gains-along launched flushed (run.given ++ batch_unless_empty batch) (batches_from size [] calls)
    (run.rest [] ∙ ap (λ (all : List Issued). batches_from size [] all) (append-nil calls))
    (Gains-then launched later flushed run.given (batch_unless_empty batch) run.told flush)

module _ {R S : Type 0} (tracked : S → Tracked) (steps : Steps S) (stands : R → S → Type 0) (fails : R → Type 0) (tells : R → Option Batches) (sends : R → ℕ) (size : ℕ) (lines : List Line)
    (rail back : R) (memory : List ℕ) (front later flushed : FrontView R) (before told : List DoneView)
    (is_new : front ≡ new_front rail size memory) (is_back : back ≡ flushed.rail) (flush : Flushes stands fails tells sends steps later flushed) where
  pub runs_over : (counts : Counts) → before ≡ [] → RunsOn tracked steps stands tells lines front later before told → counts ≡ flushed.counts
      → RunsOver tracked steps stands tells (record { size = size; memory = memory; launched = rail; back = back }) lines told counts
  runs_over counts none run same_counts =
      let P : FrontView R → List DoneView → Type 0 = λ f t. RunsOn tracked steps stands tells lines f later t told in
      let here = subst (λ (t : List DoneView). P (new_front rail size memory) t) none (subst (λ (f : FrontView R). P f before) is_new run) in
      let calls = issued_by_lines size (at_start memory) here.ran in
      record {
        ran = here.ran;
        each = here.each;
        all_told = here.told;
        leads = λ st2 at_end.
            let A : List Spelled → Type 0 = λ l. RunsFrom (stands flushed.rail) steps l st2 in
            let home : stands flushed.rail st2 = subst (λ (r : R). stands r st2) is_back at_end in
            let idle : RunsFrom (stands flushed.rail) steps [] st2 = record { start = st2; may_start = home; run = refl } in
            let led = here.leads st2 (flush.no_more st2 (subst A (sym flush.ends.open_batch) idle)) in
            (led.0, subst (λ (s : S). stands rail s) (sym led.1.run) led.1.may_start, led.2);
        all_counted = ap counted same_counts ∙ counts_from_new size later.calls calls later.counts flushed.counts here.counts flush.ends.counts;
        handed_over = subst (λ (r : R). Gains (tells rail) (tells r) (batches_from size [] calls)) (sym is_back)
            (told_in_all size later.calls calls (tells rail) (tells later.rail) (tells flushed.rail) here.batches flush.ends.journal);
      }

  -- what was handed over until memory was wanting
  pub gains_some : StopsOn tracked steps stands fails tells sends lines front later before told → GainsSome (tells rail) (tells back)
  gains_some stopped =
      let rails_alike : front.rail ≡ rail = ap (λ (f : FrontView R). f.rail) is_new in
      let first = stopped.runs.batches in
      let opened : Gains (tells rail) (tells stopped.mid.rail) first.given = subst (λ (r : R). Gains (tells r) (tells stopped.mid.rail) first.given) rails_alike first.told in
      let G : R → Type 0 = λ r. (more : Batches) × Gains (tells stopped.mid.rail) (tells r) more in
      let stop : G later.rail = elim stopped.stops [
        | inl same ↦ ([], subst (λ (f : FrontView R). Gains (tells stopped.mid.rail) (tells f.rail) []) (sym same) (Gains-none (tells stopped.mid.rail) [] refl))
        | inr other ↦ elim other [
          | inl refused ↦ (batch_unless_empty stopped.mid.calls, refused.ends.journal)
          | inr untold ↦ (untold.runs.batches.given, untold.runs.batches.told)
        ]
      ] in
      let sent = Gains-then (tells rail) (tells stopped.mid.rail) (tells later.rail) first.given stop.0 opened stop.1 in
      let all = Gains-then (tells rail) (tells later.rail) (tells flushed.rail) (first.given ++ stop.0) (batch_unless_empty later.calls) sent flush.ends.journal in
      (first.given ++ stop.0 ++ batch_unless_empty later.calls, subst (λ (r : R). Gains (tells rail) (tells r) (first.given ++ stop.0 ++ batch_unless_empty later.calls)) (sym is_back) all)

-- a rail that was given back as it was
pub gains_nothing : {R : Type 0} (journal : R → Option Batches) (rail back : R) → back ≡ rail → GainsSome (journal rail) (journal back)
gains_nothing {R} journal rail back same = ([], subst (λ (r : R). Gains (journal rail) (journal r) []) (sym same) (Gains-none (journal rail) [] refl))
