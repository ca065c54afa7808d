-- Counts and journals of calls, of none, one, and some behind others.
use Rattle.std.proofs.Common.{◌≡◌, cond, ℕ, ◌+◌, List, [], ◌∷◌, ◌++◌, length, refl, sym, ap, ◌∙◌, append_assoc, arith, Option}
use Rattle.batch_pack.specs.Spelling.{Spelled}
use Rattle.client_shadow.specs.declared.class.Class.{Class}
use Rattle.client_shadow.specs.declared.class.Class.TheVariants.{Answer, Sync, Defer}
use Rattle.client_shadow.specs.Cutting.{Issued, batches_from, ended_at, open_after, is_class}
use Rattle.client_shadow.proofs.Batching.{count_of-nil, count_of-one, count_of-append, length-batches_from-cons}
use Rattle.batch_rail.specs.Rail.{Gains}
use Rattle.batch_rail.proofs.Journals.{Gains-none, Gains-then}
use Rattle.gl_front.specs.declared.counts.Counts.{Counts}
use Rattle.gl_front.specs.Front.{counts_after}
use Rattle.replay_lines.specs.Running.{CountsOn, TellsOn}

-- no calls, one, and some behind others: their counts
pub CountsOn-nil : (size : ℕ) (batch : List Spelled) (counts : Counts) → CountsOn size batch batch [] counts counts
CountsOn-nil size batch counts = record {
  deferred = omega (arith, count_of-nil Defer);
  synchronised = omega (arith, count_of-nil Sync);
  answered = omega (arith, count_of-nil Answer);
  batches = λ later. refl;
}

pub CountsOn-then : (size : ℕ) (first batch last : List Spelled) (calls others : List Issued) (old mid new : Counts) → CountsOn size first batch calls old mid → CountsOn size batch last others mid new → CountsOn size first last (calls ++ others) old new
CountsOn-then size first batch last calls others old mid new one two = record {
  deferred = omega (arith, count_of-append Defer calls others, one.deferred, two.deferred);
  synchronised = omega (arith, count_of-append Sync calls others, one.synchronised, two.synchronised);
  answered = omega (arith, count_of-append Answer calls others, one.answered, two.answered);
  batches = λ later. two.batches later ∙ one.batches (others ++ later) ∙ ap (λ (all : List Issued). old.batches + length (batches_from size first all)) (sym (append_assoc calls others later));
}

counts_at : (size : ℕ) (batch : List Spelled) (call : Issued) (old new : Counts) (k : Class) → call.class ≡ k → new ≡ counts_after old k (length (ended_at size batch call)) → CountsOn size batch (open_after size batch call) (call ∷ []) old new
counts_at size batch call old new Answer is_k same =
    let d : new.deferred ≡ old.deferred = ap (λ (c : Counts). c.deferred) same in
    let s : new.synchronised ≡ old.synchronised = ap (λ (c : Counts). c.synchronised) same in
    let a : new.answered ≡ old.answered + 1 = ap (λ (c : Counts). c.answered) same in
    let b : new.batches ≡ old.batches + length (ended_at size batch call) = ap (λ (c : Counts). c.batches) same in
    record {
      deferred = omega (arith, d, count_of-one Defer call ∙ ap (λ j. cond (is_class Defer j) 1 0) is_k);
      synchronised = omega (arith, s, count_of-one Sync call ∙ ap (λ j. cond (is_class Sync j) 1 0) is_k);
      answered = omega (arith, a, count_of-one Answer call ∙ ap (λ j. cond (is_class Answer j) 1 0) is_k);
      batches = λ later. omega (arith, b, length-batches_from-cons size batch call later);
    }
counts_at size batch call old new Sync is_k same =
    let d : new.deferred ≡ old.deferred = ap (λ (c : Counts). c.deferred) same in
    let s : new.synchronised ≡ old.synchronised + 1 = ap (λ (c : Counts). c.synchronised) same in
    let a : new.answered ≡ old.answered = ap (λ (c : Counts). c.answered) same in
    let b : new.batches ≡ old.batches + length (ended_at size batch call) = ap (λ (c : Counts). c.batches) same in
    record {
      deferred = omega (arith, d, count_of-one Defer call ∙ ap (λ j. cond (is_class Defer j) 1 0) is_k);
      synchronised = omega (arith, s, count_of-one Sync call ∙ ap (λ j. cond (is_class Sync j) 1 0) is_k);
      answered = omega (arith, a, count_of-one Answer call ∙ ap (λ j. cond (is_class Answer j) 1 0) is_k);
      batches = λ later. omega (arith, b, length-batches_from-cons size batch call later);
    }
counts_at size batch call old new Defer is_k same =
    let d : new.deferred ≡ old.deferred + 1 = ap (λ (c : Counts). c.deferred) same in
    let s : new.synchronised ≡ old.synchronised = ap (λ (c : Counts). c.synchronised) same in
    let a : new.answered ≡ old.answered = ap (λ (c : Counts). c.answered) same in
    let b : new.batches ≡ old.batches + length (ended_at size batch call) = ap (λ (c : Counts). c.batches) same in
    record {
      deferred = omega (arith, d, count_of-one Defer call ∙ ap (λ j. cond (is_class Defer j) 1 0) is_k);
      synchronised = omega (arith, s, count_of-one Sync call ∙ ap (λ j. cond (is_class Sync j) 1 0) is_k);
      answered = omega (arith, a, count_of-one Answer call ∙ ap (λ j. cond (is_class Answer j) 1 0) is_k);
      batches = λ later. omega (arith, b, length-batches_from-cons size batch call later);
    }

pub CountsOn-one : (size : ℕ) (batch : List Spelled) (call : Issued) (old new : Counts) → new ≡ counts_after old call.class (length (ended_at size batch call)) → CountsOn size batch (open_after size batch call) (call ∷ []) old new
CountsOn-one size batch call old new same = counts_at size batch call old new call.class refl same

-- no calls, one, and some behind others: their batches
pub TellsOn-nil : (size : ℕ) (batch : List Spelled) (told : Option (List (List Spelled))) → TellsOn size batch batch [] told told
TellsOn-nil size batch told = record { given = []; told = Gains-none told [] refl; rest = λ later. refl }

pub TellsOn-one : (size : ℕ) (batch : List Spelled) (call : Issued) (old new : Option (List (List Spelled))) → Gains old new (ended_at size batch call) → TellsOn size batch (open_after size batch call) (call ∷ []) old new
unfolding batches_from
TellsOn-one size batch call old new more = record { given = ended_at size batch call; told = more; rest = λ later. refl }

pub TellsOn-then : (size : ℕ) (first batch last : List Spelled) (calls others : List Issued) (old mid new : Option (List (List Spelled))) → TellsOn size first batch calls old mid → TellsOn size batch last others mid new → TellsOn size first last (calls ++ others) old new
TellsOn-then size first batch last calls others old mid new one two = record {
  given = one.given ++ two.given;
  told = Gains-then old mid new one.given two.given one.told two.told;
  rest = λ later.
      append_assoc one.given two.given (batches_from size last later)
      ∙ ap (λ (l : List (List Spelled)). one.given ++ l) (two.rest later)
      ∙ one.rest (others ++ later)
      ∙ ap (λ (all : List Issued). batches_from size first all) (sym (append_assoc calls others later));
}
