-- The spelling of a call with its segments and of several: how long it is, and that what is read from it is what was spelled.
use Rattle.std.proofs.Common.{◌≡◌, ℕ, zero, suc, ◌+◌, ◌-◌, ◌≤◌, List, [], ◌∷◌, ◌++◌, length, map, drop, Option, Some, None, refl, sym, ap, ◌∙◌, subst, arith}
use Rattle.std.specs.Prelude.{unwrap_or}
use Rattle.std.specs.List.{flat_map}
use Rattle.std.specs.Option.{option_map}
use Rattle.std.proofs.lemmas.List.{append-nil, append_assoc, append_cancel_left, length-append, length-map, drop_at}
use Rattle.std.proofs.lemmas.List.Concat.{flat_map-append}
use Rattle.std.proofs.lemmas.List.Sums.{sum-map}
use Rattle.gl_words.specs.Call.{id_of, arguments}
use Rattle.gl_words.specs.CallOf.{argument_count}
use Rattle.gl_words.specs.Slots.{slot_of, call_begun}
use Rattle.gl_words.specs.declared.call.Call.{Call}
use Rattle.gl_words.proofs.Rows.{argument_count-again, small_id}
use Rattle.gl_words.proofs.Slotted.{call_begun-again}
use Rattle.gl_memory.specs.Segment.{Segment}
use Rattle.batch_pack.specs.Spelling.{Spelled, segment_slots, segment_spelling, slots_of, header_of, spelling_of, spellings_of, HasSpelling, HaveSpellings, SpellingLaw}
use Rattle.batch_pack.specs.Decoding.{id_said, slots_said, segments_said, arguments_said, call_at, segments_at, spelled_at, followed_by, calls_read, calls_in}
use Rattle.batch_pack.specs.Holding.{AreReadable}
use Rattle.batch_pack.proofs.SegmentLemmas.{length-segments, segments_at-spelled}

-- ---- how long a spelling is

-- the slots of a spelling are its header, its arguments and those of its segments
pub slots_of-parts : (spelled : Spelled) → slots_of spelled ≡ 1 + length (arguments spelled.call) + length (flat_map segment_spelling spelled.segments)
unfolding slots_of
slots_of-parts spelled =
    ap (λ (n : ℕ). 1 + length (arguments spelled.call) + n) (sum-map segment_slots spelled.segments ∙ sym (length-segments spelled.segments))

pub length-spelling_of : (spelled : Spelled) → length (spelling_of spelled) ≡ slots_of spelled
unfolding spelling_of
length-spelling_of spelled =
    let parts = length-append (map slot_of (arguments spelled.call)) (flat_map segment_spelling spelled.segments) in
    let many = length-map (arguments spelled.call) slot_of in
    omega (arith, slots_of-parts spelled)

-- ---- what a header says

pub id_said-header_of : (spelled : Spelled) → id_said (header_of spelled) ≡ id_of spelled.call
unfolding id_said header_of
id_said-header_of spelled =
    let small = small_id spelled.call in
    omega arith

pub slots_said-header_of : (spelled : Spelled) → HasSpelling spelled → slots_said (header_of spelled) ≡ slots_of spelled
unfolding slots_said header_of
slots_said-header_of spelled h =
    let small = small_id spelled.call in
    let short = h.short in
    omega arith

pub segments_said-header_of : (spelled : Spelled) → HasSpelling spelled → segments_said (header_of spelled) ≡ length spelled.segments
unfolding segments_said header_of
segments_said-header_of spelled h =
    let small = small_id spelled.call in
    let short = h.short in
    omega arith

pub arguments_said-header_of : (spelled : Spelled) → arguments_said (header_of spelled) ≡ length (arguments spelled.call)
unfolding arguments_said
arguments_said-header_of spelled =
    ap (λ (n : ℕ). unwrap_or (argument_count n) 0) (id_said-header_of spelled) ∙ ap (λ (o : Option ℕ). unwrap_or o 0) (argument_count-again spelled.call)

-- a header that says what a spelling has is its header
pub header_from_said : (header : ℕ) (spelled : Spelled) → id_said header ≡ id_of spelled.call → slots_said header ≡ slots_of spelled → segments_said header ≡ length spelled.segments → header ≡ header_of spelled
unfolding id_said slots_said segments_said header_of
header_from_said header spelled id slots segments = omega arith

-- ---- arguments

pub drop-arguments : (call : Call) (more : List ℕ) → drop (length (arguments call)) (map slot_of (arguments call) ++ more) ≡ more
drop-arguments call more = drop_at (map slot_of (arguments call)) more (length (arguments call)) (length-map (arguments call) slot_of)

-- ---- one spelling

pub spelling_of-append : (spelled : Spelled) (more : List ℕ)
    → spelling_of spelled ++ more ≡ header_of spelled ∷ (map slot_of (arguments spelled.call) ++ (flat_map segment_spelling spelled.segments ++ more))
unfolding spelling_of
spelling_of-append spelled more =
    ap (λ (s : List ℕ). header_of spelled ∷ s) (append_assoc (map slot_of (arguments spelled.call)) (flat_map segment_spelling spelled.segments) more)

module _ (spelled : Spelled) (more : List ℕ) (h : HasSpelling spelled) where
  abbrev behind : List ℕ
  behind = flat_map segment_spelling spelled.segments ++ more

  abbrev rest : List ℕ
  rest = map slot_of (arguments spelled.call) ++ behind

  -- the first call and its segments are read where their spelling stands
  call_at-spelled : call_at (header_of spelled) rest ≡ Some spelled.call
  unfolding call_at
  call_at-spelled =
      ap (λ (i : ℕ). call_begun i rest) (id_said-header_of spelled) ∙ call_begun-again spelled.call behind h.in_range

  segments_at-spelling : segments_at (segments_said (header_of spelled)) (drop (arguments_said (header_of spelled)) rest) ≡ spelled.segments
  segments_at-spelling =
      ap (λ (n : ℕ). segments_at n (drop (arguments_said (header_of spelled)) rest)) (segments_said-header_of spelled h)
      ∙ ap (λ (n : ℕ). segments_at (length spelled.segments) (drop n rest)) (arguments_said-header_of spelled)
      ∙ ap (segments_at (length spelled.segments)) (drop-arguments spelled.call behind)
      ∙ segments_at-spelled spelled.segments more h.segments

  pub spelled_at-spelling : spelled_at (header_of spelled) rest ≡ Some spelled
  unfolding spelled_at
  spelled_at-spelling =
      ap (λ (o : Option Call). option_map (λ call. let s : Spelled = record { call = call; segments = segments_at (segments_said (header_of spelled)) (drop (arguments_said (header_of spelled)) rest) } in s) o) call_at-spelled
      ∙ ap (λ (segments : List Segment). let s : Spelled = record { call = spelled.call; segments = segments } in Some s) segments_at-spelling

  pub drop-spelling : drop (slots_said (header_of spelled) - 1) rest ≡ more
  drop-spelling =
      let front = map slot_of (arguments spelled.call) ++ flat_map segment_spelling spelled.segments in
      let whole : suc (length front) ≡ slots_of spelled = unfold spelling_of in length-spelling_of spelled in
      let many : length front ≡ slots_said (header_of spelled) - 1 = omega (arith, slots_said-header_of spelled h) in
      ap (drop (slots_said (header_of spelled) - 1)) (sym (append_assoc (map slot_of (arguments spelled.call)) (flat_map segment_spelling spelled.segments) more))
      ∙ drop_at front more (slots_said (header_of spelled) - 1) many

-- the call and the segments that slots begin with, where they begin with one
abbrev first_in : List ℕ → Option Spelled
first_in [] = None
first_in (header ∷ slots) = spelled_at header slots

pub first_in-spelling : (spelled : Spelled) (more : List ℕ) → HasSpelling spelled → first_in (spelling_of spelled ++ more) ≡ Some spelled
first_in-spelling spelled more h = ap first_in (spelling_of-append spelled more) ∙ spelled_at-spelling spelled more h

-- slots begin with the spelling of one call at most
pub same_first_call : (one other : Spelled) (after_one after_other : List ℕ) → HasSpelling one → HasSpelling other → spelling_of one ++ after_one ≡ spelling_of other ++ after_other → one ≡ other
same_first_call one other after_one after_other h1 h2 same =
    let e1 = first_in-spelling one after_one h1 in
    let e2 = first_in-spelling other after_other h2 in
    let e3 = ap first_in same in
    cc

pub no_spelling_begins_another : (one other : Spelled) (more : List ℕ) → HasSpelling one → HasSpelling other → spelling_of one ≡ spelling_of other ++ more → more ≡ []
no_spelling_begins_another one other more h1 h2 same =
    let padded = append-nil (spelling_of one) ∙ same in
    let e = same_first_call one other [] more h1 h2 padded in
    sym (append_cancel_left (spelling_of other) [] more (append-nil (spelling_of other) ∙ ap spelling_of (sym e) ∙ same))

pub equal_spellings_equal_calls : (one other : Spelled) → HasSpelling one → HasSpelling other → spelling_of one ≡ spelling_of other → one ≡ other
equal_spellings_equal_calls one other h1 h2 same = same_first_call one other [] [] h1 h2 (ap (λ (s : List ℕ). s ++ []) same)

pub the_spelling_law : (one other : List ℕ) → SpellingLaw one other
the_spelling_law one other = λ call other_call h1 h2 e1 e2. record {
  no_longer = λ more same. no_spelling_begins_another call other_call more h1 h2 (sym e1 ∙ same ∙ ap (λ (s : List ℕ). s ++ more) e2);
  no_shorter = λ more same. no_spelling_begins_another other_call call more h2 h1 (sym e2 ∙ same ∙ ap (λ (s : List ℕ). s ++ more) e1);
  same_call = λ same. equal_spellings_equal_calls call other_call h1 h2 (sym e1 ∙ same ∙ e2);
}

-- ---- spellings one after another

pub spellings_of-append : (calls more : List Spelled) → spellings_of (calls ++ more) ≡ spellings_of calls ++ spellings_of more
unfolding spellings_of
spellings_of-append calls more = flat_map-append spelling_of calls more

pub spellings_of-cons : (call : Spelled) (calls : List Spelled) → spellings_of (call ∷ calls) ≡ spelling_of call ++ spellings_of calls
unfolding spellings_of
spellings_of-cons call calls = refl

pub spellings_of-one : (call : Spelled) → spellings_of (call ∷ []) ≡ spelling_of call
unfolding spellings_of
spellings_of-one call = append-nil (spelling_of call)

pub HaveSpellings-append : (calls more : List Spelled) → HaveSpellings calls → HaveSpellings more → HaveSpellings (calls ++ more)
HaveSpellings-append [] more h k = k
HaveSpellings-append (call ∷ calls) more h k = (h.0, HaveSpellings-append calls more (h.1) k)

calls_read-step : (n : ℕ) (call : Spelled) (more : List ℕ) → HasSpelling call → calls_read (suc n) (spelling_of call ++ more) ≡ call ∷ calls_read n more
unfolding calls_read
calls_read-step n call more h =
    let rest = map slot_of (arguments call.call) ++ (flat_map segment_spelling call.segments ++ more) in
    ap (calls_read (suc n)) (spelling_of-append call more)
    ∙ ap (λ (o : Option Spelled). followed_by o (calls_read n (drop (slots_said (header_of call) - 1) rest))) (spelled_at-spelling call more h)
    ∙ ap (λ (s : List ℕ). call ∷ calls_read n s) (drop-spelling call more h)

calls_read-nil : (n : ℕ) → calls_read n [] ≡ []
unfolding calls_read
calls_read-nil zero = refl
calls_read-nil (suc n) = refl

calls_read-spellings_of : (n : ℕ) (calls : List Spelled) → HaveSpellings calls → length calls ≤ n → calls_read n (spellings_of calls) ≡ calls
calls_read-spellings_of n [] h few = unfold spellings_of in calls_read-nil n
calls_read-spellings_of zero (call ∷ calls) h few = absurd (omega arith)
calls_read-spellings_of (suc n) (call ∷ calls) h few =
    ap (calls_read (suc n)) (spellings_of-cons call calls)
    ∙ calls_read-step n call (spellings_of calls) (h.0)
    ∙ ap (λ (cs : List Spelled). call ∷ cs) (calls_read-spellings_of n calls (h.1) (omega arith))

-- every call takes a slot at least
no_more_calls_than_slots : (calls : List Spelled) → length calls ≤ length (spellings_of calls)
no_more_calls_than_slots [] = omega arith
no_more_calls_than_slots (call ∷ calls) =
    let e = ap length (spellings_of-cons call calls) ∙ length-append (spelling_of call) (spellings_of calls) in
    let one : 1 ≤ length (spelling_of call) = unfold spelling_of in omega arith in
    omega (arith, no_more_calls_than_slots calls)

-- what is read is what was spelled
pub calls_in-spellings_of : (calls : List Spelled) → HaveSpellings calls → calls_in (spellings_of calls) ≡ calls
unfolding calls_in
calls_in-spellings_of calls h = calls_read-spellings_of (length (spellings_of calls)) calls h (no_more_calls_than_slots calls)

-- spellings of calls can be read, and give these calls
pub calls_in-spelled : (slots : List ℕ) (calls : List Spelled) → HaveSpellings calls → slots ≡ spellings_of calls → calls_in slots ≡ calls
calls_in-spelled slots calls h e = ap calls_in e ∙ calls_in-spellings_of calls h

pub AreReadable-spelled : (slots : List ℕ) (calls : List Spelled) → HaveSpellings calls → slots ≡ spellings_of calls → AreReadable slots
AreReadable-spelled slots calls h e =
    let same = calls_in-spelled slots calls h e in
    record { have = subst (λ (cs : List Spelled). HaveSpellings cs) (sym same) h; spelled = e ∙ ap spellings_of (sym same) }
