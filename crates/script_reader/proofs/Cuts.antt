-- Where the first line and the first word end.
use Rattle.std.proofs.Common.{◌≡◌, ◌≢◌, ℕ, zero, suc, ◌+◌, ◌-◌, ◌<◌, ◌≤◌, Bool, true, false, cond, eqb, ◌&&◌, List, [], ◌∷◌, ◌++◌, length, get_or, slice_get, take, drop, Some, refl, sym, ap, ◌∙◌, add-one, length-append, take-suc, eq-eqb, arith}
use Rattle.std.specs.Prelude.{filter}
use Rattle.std.specs.List.{onto_first, slice_split, list_all}
use Rattle.std.proofs.lemmas.Bool.Decides.{nat_tests}
use Rattle.std.proofs.lemmas.List.Splits.{slice_split-cons_yes, slice_split-cons_no}
use Rattle.std.proofs.lemmas.List.{drop_more}
use Rattle.std.proofs.Math.Seq.{take-length, drop-length}
use Rattle.script_reader.specs.Cutting.{lines_of, text_of, without_end, ends_with, is_byte, words_of, is_blank, is_word}
use Rattle.script_reader.specs.Judged.{is_text_byte}
use Rattle.script_reader.proofs.Fronts.{by_truth}

if_not : {X : Type 0} (a b : ℕ) (x y : X) → a ≢ b → cond (eqb a b) x y ≡ y
if_not a b x y h = grind (arith, nat_tests)

if_same : {X : Type 0} (a b : ℕ) (x y : X) → a ≡ b → cond (eqb a b) x y ≡ x
if_same a b x y h = grind (arith, nat_tests)

pub first_line : (bytes : List ℕ) (i : ℕ) → ((k : ℕ) → k < i → get_or bytes k 0 ≡ 10 → ⊥) → i < length bytes → get_or bytes i 0 ≡ 10 → lines_of bytes ≡ take (suc i) bytes ∷ lines_of (drop (suc i) bytes)
unfolding lines_of
first_line [] i other within here = absurd (omega arith)
first_line (byte ∷ bytes) zero other within here = if_same byte 10 _ _ here
first_line (byte ∷ bytes) (suc i) other within here =
    if_not byte 10 _ _ (other 0 (omega arith)) ∙ ap (onto_first byte) (first_line bytes i (λ k h. other (suc k) (omega arith)) (omega arith) here)

pub whole_line : (bytes : List ℕ) → ((k : ℕ) → k < length bytes → get_or bytes k 0 ≡ 10 → ⊥) → 0 < length bytes → lines_of bytes ≡ bytes ∷ []
unfolding lines_of
whole_line [] other some = absurd (omega arith)
whole_line (byte ∷ []) other some = if_not byte 10 _ _ (other 0 (omega arith))
whole_line (byte ∷ second ∷ bytes) other some =
    if_not byte 10 _ _ (other 0 (omega arith)) ∙ ap (onto_first byte) (whole_line (second ∷ bytes) (λ k h. other (suc k) (omega arith)) (omega arith))

-- ---- a line of text

no_end_in_text : (byte : ℕ) → is_text_byte byte ≡ true → byte ≡ 10 → ⊥
no_end_in_text byte text end = grind (arith, nat_tests)

-- a line of text ends at the first LF behind it
pub first_line_of_text : (bytes : List ℕ) (i : ℕ) → ((k : ℕ) → k < i → is_text_byte (get_or bytes k 0) ≡ true) → i < length bytes → get_or bytes i 0 ≡ 10 → lines_of bytes ≡ take (suc i) bytes ∷ lines_of (drop (suc i) bytes)
first_line_of_text bytes i text within here = first_line bytes i (λ k h. no_end_in_text (get_or bytes k 0) (text k h)) within here

all_taken : (p : ℕ → Bool) (bytes : List ℕ) (n : ℕ) → ((k : ℕ) → k < n → p (get_or bytes k 0) ≡ true) → n ≤ length bytes → list_all p (take n bytes) ≡ true
all_taken p bytes zero all within = refl
all_taken p [] (suc n) all within = refl
all_taken p (byte ∷ bytes) (suc n) all within = rw (all 0 (omega arith)) (all_taken p bytes n (λ k h. all (suc k) (omega arith)) (omega arith))

by_both : {P : Type 0} (a b : Bool) → (a && b) ≡ true → (a ≡ true → b ≡ true → P) → P
by_both true b h then_this = then_this refl h
by_both false b h then_this = absurd (cc)

all_fewer : (p : ℕ → Bool) (n : ℕ) (bytes : List ℕ) → list_all p bytes ≡ true → list_all p (take n bytes) ≡ true
all_fewer p zero bytes all = refl
all_fewer p (suc n) [] all = refl
all_fewer p (suc n) (byte ∷ bytes) all = by_both (p byte) (list_all p bytes) all (λ first others. rw first (all_fewer p n bytes others))

all_without_end : (p : ℕ → Bool) (end : ℕ) (bytes : List ℕ) → list_all p bytes ≡ true → list_all p (without_end end bytes) ≡ true
all_without_end p end bytes all = by_truth (ends_with end bytes) (λ is. rw is (all_fewer p (length bytes - 1) bytes all)) (λ not. rw not all)

last_at : (bytes : List ℕ) (last : ℕ) → slice_get (bytes ++ last ∷ []) (length bytes) ≡ Some last
last_at [] last = refl
last_at (byte ∷ bytes) last = last_at bytes last

front_of : (bytes : List ℕ) (last : ℕ) → take (length bytes) (bytes ++ last ∷ []) ≡ bytes
front_of [] last = refl
front_of (byte ∷ bytes) last = ap (λ (others : List ℕ). byte ∷ others) (front_of bytes last)

one_less : (bytes : List ℕ) (last : ℕ) → length (bytes ++ last ∷ []) - 1 ≡ length bytes
one_less bytes last = omega (arith, length-append bytes (last ∷ []))

ends_with-last : (bytes : List ℕ) (last : ℕ) → ends_with last (bytes ++ last ∷ []) ≡ true
ends_with-last bytes last =
    ap (λ (n : ℕ). is_byte last (slice_get (bytes ++ last ∷ []) n)) (one_less bytes last) ∙ ap (is_byte last) (last_at bytes last) ∙ eq-eqb last last refl

without_end-last : (bytes : List ℕ) (last : ℕ) → without_end last (bytes ++ last ∷ []) ≡ bytes
without_end-last bytes last =
    rw (ends_with-last bytes last) (ap (λ (n : ℕ). take n (bytes ++ last ∷ [])) (one_less bytes last) ∙ front_of bytes last)

text_of-ended : (bytes : List ℕ) → text_of (bytes ++ 10 ∷ []) ≡ without_end 13 bytes
text_of-ended bytes =
    let line = bytes ++ 10 ∷ [] in
    ap (λ (b : Bool). cond b (without_end 13 (without_end 10 line)) line) (ends_with-last bytes 10) ∙ ap (without_end 13) (without_end-last bytes 10)

-- text and an LF behind it are a line of text
pub text_is_text : (bytes : List ℕ) (i : ℕ) → ((k : ℕ) → k < i → is_text_byte (get_or bytes k 0) ≡ true) → i < length bytes → get_or bytes i 0 ≡ 10
    → true ≡ list_all is_text_byte (text_of (take (suc i) bytes))
text_is_text bytes i text within here =
    let line : take (suc i) bytes ≡ take i bytes ++ 10 ∷ [] = take-suc bytes i 0 within ∙ ap (λ (end : ℕ). take i bytes ++ end ∷ []) here in
    sym (ap (λ (l : List ℕ). list_all is_text_byte (text_of l)) line
    ∙ ap (list_all is_text_byte) (text_of-ended (take i bytes))
    ∙ all_without_end is_text_byte 13 (take i bytes) (all_taken is_text_byte bytes i text (omega arith)))

module _ (bytes line after : List ℕ) (len : ℕ) (text : (k : ℕ) → k < len → is_text_byte (get_or bytes k 0) ≡ true) (within : len < length bytes) (here : get_or bytes len 0 ≡ 10) (front : line ≡ take (len + 1) bytes) where
  pub line_of_text : after ≡ drop (len + 1) bytes → lines_of bytes ≡ line ∷ lines_of after
  line_of_text back =
      first_line_of_text bytes len text within here
      ∙ ap (λ (l : List ℕ). l ∷ lines_of (drop (suc len) bytes)) (sym (rw add-one at front))
      ∙ ap (λ (rest : List ℕ). line ∷ lines_of rest) (sym (rw add-one at back))

  pub line_is_text : true ≡ list_all is_text_byte (text_of line)
  line_is_text =
      text_is_text bytes len text within here ∙ ap (λ (l : List ℕ). list_all is_text_byte (text_of l)) (sym (rw add-one at front))

-- ---- words

pub words_of-blank : (text : List ℕ) (i : ℕ) → i < length text → is_blank (get_or text i 0) ≡ true → words_of (drop i text) ≡ words_of (drop (i + 1) text)
unfolding words_of
words_of-blank text i within blank =
    ap (λ (t : List ℕ). filter is_word (slice_split is_blank t)) (drop_more text i 0 within)
    ∙ ap (filter is_word) (slice_split-cons_yes is_blank (get_or text i 0) (drop (i + 1) text) blank)

split_first : (text : List ℕ) (i : ℕ) → ((k : ℕ) → k < i → is_blank (get_or text k 0) ≡ false) → i < length text → is_blank (get_or text i 0) ≡ true → slice_split is_blank text ≡ take i text ∷ slice_split is_blank (drop (suc i) text)
split_first [] i other within blank = absurd (omega arith)
split_first (byte ∷ bytes) zero other within blank = slice_split-cons_yes is_blank byte bytes blank
split_first (byte ∷ bytes) (suc i) other within blank =
    slice_split-cons_no is_blank byte bytes (other 0 (omega arith)) ∙ ap (onto_first byte) (split_first bytes i (λ k h. other (suc k) (omega arith)) (omega arith) blank)

split_whole : (text : List ℕ) → ((k : ℕ) → k < length text → is_blank (get_or text k 0) ≡ false) → slice_split is_blank text ≡ text ∷ []
split_whole [] other = refl
split_whole (byte ∷ bytes) other =
    slice_split-cons_no is_blank byte bytes (other 0 (omega arith)) ∙ ap (onto_first byte) (split_whole bytes (λ k h. other (suc k) (omega arith)))

pub first_word : (text : List ℕ) (i : ℕ) → 0 < i → ((k : ℕ) → k < i → is_blank (get_or text k 0) ≡ false) → i < length text → is_blank (get_or text i 0) ≡ true → words_of text ≡ take i text ∷ words_of (drop i text)
unfolding words_of
first_word [] i some other within blank = absurd (omega arith)
first_word (byte ∷ bytes) zero some other within blank = absurd (omega arith)
first_word (byte ∷ bytes) (suc i) some other within blank =
    ap (filter is_word) (split_first (byte ∷ bytes) (suc i) other within blank)
    ∙ ap (λ (rest : List (List ℕ)). (byte ∷ take i bytes) ∷ rest) (sym (words_of-blank (byte ∷ bytes) (suc i) within blank ∙ rw add-one refl))

pub whole_word : (text : List ℕ) → 0 < length text → ((k : ℕ) → k < length text → is_blank (get_or text k 0) ≡ false) → words_of text ≡ text ∷ []
unfolding words_of
whole_word [] some other = absurd (omega arith)
whole_word (byte ∷ bytes) some other = ap (filter is_word) (split_whole (byte ∷ bytes) other)

pub first_is_whole_line : (bytes : List ℕ) → ((k : ℕ) → k < length bytes → get_or bytes k 0 ≡ 10 → ⊥) → 0 < length bytes → lines_of bytes ≡ take (length bytes) bytes ∷ lines_of (drop (length bytes) bytes)
unfolding lines_of
first_is_whole_line bytes other some = whole_line bytes other some ∙ rw (take-length, drop-length) refl

pub first_is_whole_word : (text : List ℕ) → 0 < length text → ((k : ℕ) → k < length text → is_blank (get_or text k 0) ≡ false) → words_of text ≡ take (length text) text ∷ words_of (drop (length text) text)
unfolding words_of
first_is_whole_word text some other = whole_word text some other ∙ rw (take-length, drop-length) refl

no_both : (b : Bool) → b ≡ false → b ≡ true → ⊥
no_both b word blank = absurd (cc)

pub not_the_first : (text : List ℕ) (i : ℕ) → is_blank (get_or text 0 0) ≡ false → is_blank (get_or text i 0) ≡ true → 0 < i
not_the_first text zero word blank = absurd (no_both _ word blank)
not_the_first text (suc i) word blank = omega arith

pub words_of-empty : (text : List ℕ) → length text ≡ 0 → words_of text ≡ []
unfolding words_of
words_of-empty [] none = refl
words_of-empty (byte ∷ bytes) none = absurd (omega arith)
