-- Slots that are the spellings of calls, and what is left of them after some were read.
use Rattle.std.proofs.Common.{◌≡◌, ℕ, ◌<◌, ◌≤◌, List, [], ◌∷◌, ◌++◌, length, refl, sym, ap, ◌∙◌, arith}
use Rattle.std.proofs.lemmas.List.{append-nil, append_assoc, append_cancel_left, length-append, nil_from_length}
use Rattle.batch_pack.specs.Spelling.{Spelled, slots_of, spelling_of, spellings_of, HasSpelling, HaveSpellings, AreSpellings}
use Rattle.batch_pack.specs.Decoding.{calls_in}
use Rattle.batch_pack.specs.Holding.{AreReadable}
use Rattle.batch_pack.proofs.Spellings.{length-spelling_of, same_first_call, spellings_of-append, spellings_of-cons, spellings_of-one, HaveSpellings-append, AreReadable-spelled, calls_in-spelled}

-- slots are the spellings of calls that were read, and the rest
abbrev pub IsReadTo : List ℕ → List ℕ → Type 0
IsReadTo slots rest = (read : List Spelled) × HaveSpellings read × (slots ≡ spellings_of read ++ rest)

pub some_slots : (call : Spelled) → 1 ≤ slots_of call
unfolding slots_of
some_slots call = omega arith

pub less_left : (rest more : List ℕ) (call : Spelled) → rest ≡ spelling_of call ++ more → length more < length rest
less_left rest more call spelled =
    let e = ap length spelled ∙ length-append (spelling_of call) more in
    omega (arith, length-spelling_of call, some_slots call)

pub reads_one_more : (slots rest more : List ℕ) (call : Spelled) → IsReadTo slots rest → HasSpelling call → rest ≡ spelling_of call ++ more → IsReadTo slots more
reads_one_more slots rest more call before has spelled =
    let read = before.0 in
    let one = ap (λ (s : List ℕ). s ++ more) (spellings_of-append read (call ∷ []) ∙ ap (λ (s : List ℕ). spellings_of read ++ s) (spellings_of-one call)) in (
      read ++ call ∷ [],
      HaveSpellings-append read (call ∷ []) (before.1) (has, tt),
      before.2
          ∙ ap (λ (s : List ℕ). spellings_of read ++ s) spelled
          ∙ sym (append_assoc (spellings_of read) (spelling_of call) more)
          ∙ sym one,
    )

-- what is left of spellings after some calls are spellings again
later_calls : (read calls : List Spelled) (rest : List ℕ) → HaveSpellings read → HaveSpellings calls → spellings_of read ++ rest ≡ spellings_of calls → AreSpellings rest
later_calls [] calls rest h k same = (calls, k, unfold spellings_of in same)
later_calls (call ∷ read) [] rest h k same =
    let e1 = ap length same in
    let e2 = length-append (spellings_of (call ∷ read)) rest in
    let e3 = ap length (spellings_of-cons call read) ∙ length-append (spelling_of call) (spellings_of read) in
    let e4 : length (spellings_of []) ≡ 0 = unfold spellings_of in refl in
    absurd (omega (arith, length-spelling_of call, some_slots call))
later_calls (call ∷ read) (other ∷ calls) rest h k same =
    let left = ap (λ (s : List ℕ). s ++ rest) (spellings_of-cons call read) ∙ append_assoc (spelling_of call) (spellings_of read) rest in
    let both = sym left ∙ same ∙ spellings_of-cons other calls in
    let e = same_first_call call other (spellings_of read ++ rest) (spellings_of calls) (h.0) (k.0) both in
    later_calls read calls rest (h.1) (k.1)
    (append_cancel_left (spelling_of call) (spellings_of read ++ rest) (spellings_of calls) (both ∙ ap (λ (c : Spelled). spelling_of c ++ spellings_of calls) (sym e)))

pub AreSpellings-rest : (slots rest : List ℕ) → IsReadTo slots rest → AreSpellings slots → AreSpellings rest
AreSpellings-rest slots rest read all = later_calls (read.0) (all.0) rest (read.1) (all.1) (sym (read.2) ∙ all.2)

-- where slots are spellings and there are some, they begin with one
pub spelling_first : {P : Type 0} (rest : List ℕ) → AreSpellings rest → (length rest ≡ 0 → ⊥) → ((call : Spelled) (more : List ℕ) → HasSpelling call → rest ≡ spelling_of call ++ more → P) → P
spelling_first rest ([], h, e) some k =
    let none : length (spellings_of []) ≡ 0 = unfold spellings_of in refl in
    absurd (some (ap length e ∙ none))
spelling_first rest (call ∷ calls, h, e) some k = k call (spellings_of calls) (h.0) (e ∙ spellings_of-cons call calls)

-- all slots were read
pub all_read : (slots rest : List ℕ) → length rest ≡ 0 → IsReadTo slots rest → AreSpellings slots
all_read slots rest none read =
    (read.0, read.1, read.2 ∙ ap (λ (s : List ℕ). spellings_of (read.0) ++ s) (nil_from_length rest none) ∙ append-nil (spellings_of (read.0)))

pub AreReadable-spellings : (slots : List ℕ) → AreSpellings slots → AreReadable slots
AreReadable-spellings slots all = AreReadable-spelled slots (all.0) (all.1) (all.2)

pub nothing_read : (slots : List ℕ) → IsReadTo slots slots
unfolding spellings_of
nothing_read slots = ([], tt, refl)

spelled : (slots : List ℕ) → AreReadable slots → AreSpellings slots
spelled slots readable = (calls_in slots, readable.have, readable.spelled)

-- readable slots that begin with no spelling give no call
pub calls_in-at_end : (slots : List ℕ) → AreReadable slots → ((call : Spelled) (more : List ℕ) → HasSpelling call → slots ≡ spelling_of call ++ more → ⊥) → calls_in slots ≡ []
calls_in-at_end [] readable none = calls_in-spelled [] [] tt (unfold spellings_of in refl)
calls_in-at_end (slot ∷ slots) readable none =
    absurd (spelling_first (slot ∷ slots) (spelled (slot ∷ slots) readable) (λ e. absurd (omega arith)) none)

module _ (slots more : List ℕ) (call : Spelled) (readable : AreReadable slots) (has : HasSpelling call) (begins : slots ≡ spelling_of call ++ more) where
  -- readable slots without the first spelling
  pub AreReadable-rest : AreReadable more
  AreReadable-rest = AreReadable-spellings more (AreSpellings-rest slots more (reads_one_more slots slots more call (nothing_read slots) has begins) (spelled slots readable))

  pub calls_in-first : calls_in slots ≡ call ∷ calls_in more
  calls_in-first =
      let whole = begins ∙ ap (λ (s : List ℕ). spelling_of call ++ s) AreReadable-rest.spelled ∙ sym (spellings_of-cons call (calls_in more)) in
      calls_in-spelled slots (call ∷ calls_in more) (has, AreReadable-rest.have) whole
