-- Numbers read one after another: those so far, before those that are left.
use Rattle.std.proofs.Common.{◌≡◌, ℕ, ◌+◌, ◌<◌, ◌≤◌, ℤ, List, [], ◌∷◌, ◌++◌, length, get_or, drop, append_assoc, refl, sym, ap, ◌∙◌, Some, None, Option, Err, Bool, true, false, cond, eqb, ◌≢◌, arith}
use Rattle.std.specs.Option.{ok_or}
use Rattle.std.proofs.lemmas.Bool.{eqb-true, eqb-false}
use Rattle.std.proofs.lemmas.Bool.Decides.{nat_tests}
use Rattle.script_reader.specs.declared.error.ScriptFault.TheVariants.{BadNumber, WrongCount, OutOfRange}
use Rattle.std.specs.Prelude.{option_and_then}
use Rattle.std.proofs.lemmas.List.{append-nil, drop_more, drop_all}
use Rattle.std.specs.Option.{option_map}
use Rattle.gl_words.specs.declared.shape.ArgKind.{ArgKind}
use Rattle.gl_words.specs.declared.shape.ArgKind.TheVariants.{Enum}
use Rattle.script_reader.specs.Number.{number_of, argument_of}
use Rattle.script_reader.specs.Judged.{◌>>=◌, numbers_of, arguments_of, value_of, judged_arguments, judged_call, body_in}
use Rattle.gl_words.specs.CallOf.{call_of}
use Rattle.script_reader.specs.declared.before.Before.{Before}
use Rattle.script_reader.specs.declared.script.Act.TheVariants.{Gl}

-- the numbers so far, and those that are left, where each word spells one
abbrev pub behind : List ℤ → Option (List ℤ) → Option (List ℤ)
behind front left = option_map (λ more. front ++ more) left

behind-push : (front : List ℤ) (number : ℤ) (left : Option (List ℤ)) → behind front (option_map (λ more. number ∷ more) left) ≡ behind (front ++ number ∷ []) left
behind-push front number None = refl
behind-push front number (Some more) = ap Some (sym (append_assoc front (number ∷ []) more))

pub numbers_of-next : (front : List ℤ) (word : List ℕ) (words : List (List ℕ)) (number : ℤ) → number_of word ≡ Some number → behind front (numbers_of (word ∷ words)) ≡ behind (front ++ number ∷ []) (numbers_of words)
unfolding numbers_of
numbers_of-next front word words number h =
    ap (λ (o : Option ℤ). behind front (option_and_then (λ n. option_map (λ more. n ∷ more) (numbers_of words)) o)) h ∙ behind-push front number (numbers_of words)

pub numbers_of-none : (front : List ℤ) (word : List ℕ) (words : List (List ℕ)) → number_of word ≡ None → behind front (numbers_of (word ∷ words)) ≡ None
unfolding numbers_of
numbers_of-none front word words h = ap (λ (o : Option ℤ). behind front (option_and_then (λ n. option_map (λ more. n ∷ more) (numbers_of words)) o)) h

pub numbers_of-end : (front : List ℤ) → behind front (numbers_of []) ≡ Some front
unfolding numbers_of
numbers_of-end front = ap Some (append-nil front)

pub arguments_of-next : (front : List ℤ) (kind : ArgKind) (kinds : List ArgKind) (word : List ℕ) (words : List (List ℕ)) (number : ℤ) → argument_of word ≡ Some number → behind front (arguments_of (kind ∷ kinds) (word ∷ words)) ≡ behind (front ++ value_of kind number ∷ []) (arguments_of kinds words)
unfolding arguments_of
arguments_of-next front kind kinds word words number h =
    ap (λ (o : Option ℤ). behind front (option_and_then (λ n. option_map (λ more. value_of kind n ∷ more) (arguments_of kinds words)) o)) h ∙ behind-push front (value_of kind number) (arguments_of kinds words)

pub arguments_of-none : (front : List ℤ) (kind : ArgKind) (kinds : List ArgKind) (word : List ℕ) (words : List (List ℕ)) → argument_of word ≡ None → behind front (arguments_of (kind ∷ kinds) (word ∷ words)) ≡ None
unfolding arguments_of
arguments_of-none front kind kinds word words h = ap (λ (o : Option ℤ). behind front (option_and_then (λ n. option_map (λ more. value_of kind n ∷ more) (arguments_of kinds words)) o)) h

pub arguments_of-end : (front : List ℤ) (words : List (List ℕ)) → behind front (arguments_of [] words) ≡ Some front
unfolding arguments_of
arguments_of-end front words = ap Some (append-nil front)

-- one turn of the loop over words, or its end
pub numbers_stop : (front : List ℤ) (words : List (List ℕ)) (word : List ℕ) (after : List (List ℕ)) (all : Option (List ℤ)) → words ≡ word ∷ after → number_of word ≡ None → behind front (numbers_of words) ≡ all → None ≡ all
numbers_stop front words word after all first none whole =
    sym (numbers_of-none front word after none) ∙ ap (λ (ws : List (List ℕ)). behind front (numbers_of ws)) (sym first) ∙ whole

pub numbers_step : (front : List ℤ) (words : List (List ℕ)) (word : List ℕ) (after : List (List ℕ)) (number : ℤ) (all : Option (List ℤ)) → words ≡ word ∷ after → number_of word ≡ Some number → behind front (numbers_of words) ≡ all → behind (front ++ number ∷ []) (numbers_of after) ≡ all
numbers_step front words word after number all first some whole =
    sym (numbers_of-next front word after number some) ∙ ap (λ (ws : List (List ℕ)). behind front (numbers_of ws)) (sym first) ∙ whole

pub numbers_done : (front : List ℤ) (words : List (List ℕ)) (all : Option (List ℤ)) → words ≡ [] → behind front (numbers_of words) ≡ all → Some front ≡ all
numbers_done front words all none whole =
    sym (numbers_of-end front) ∙ ap (λ (ws : List (List ℕ)). behind front (numbers_of ws)) (sym none) ∙ whole

-- one turn of the loop over kinds, or its end
pub arguments_stop : (front : List ℤ) (kinds : List ArgKind) (i : ℕ) (words : List (List ℕ)) (word : List ℕ) (after : List (List ℕ)) (all : Option (List ℤ)) → i < length kinds → words ≡ word ∷ after → argument_of word ≡ None → behind front (arguments_of (drop i kinds) words) ≡ all → None ≡ all
arguments_stop front kinds i words word after all within first none whole =
    sym (arguments_of-none front (get_or kinds i Enum) (drop (i + 1) kinds) word after none)
    ∙ ap (λ (ks : List ArgKind). behind front (arguments_of ks (word ∷ after))) (sym (drop_more kinds i Enum within))
    ∙ ap (λ (ws : List (List ℕ)). behind front (arguments_of (drop i kinds) ws)) (sym first) ∙ whole

pub arguments_step : (front : List ℤ) (kinds : List ArgKind) (i : ℕ) (kind : ArgKind) (words : List (List ℕ)) (word : List ℕ) (after : List (List ℕ)) (number : ℤ) (all : Option (List ℤ)) → i < length kinds → words ≡ word ∷ after → argument_of word ≡ Some number → behind front (arguments_of (drop i kinds) words) ≡ all → behind (front ++ value_of (get_or kinds i kind) number ∷ []) (arguments_of (drop (i + 1) kinds) after) ≡ all
arguments_step front kinds i kind words word after number all within first some whole =
    sym (arguments_of-next front (get_or kinds i kind) (drop (i + 1) kinds) word after number some)
    ∙ ap (λ (ks : List ArgKind). behind front (arguments_of ks (word ∷ after))) (sym (drop_more kinds i kind within))
    ∙ ap (λ (ws : List (List ℕ)). behind front (arguments_of (drop i kinds) ws)) (sym first) ∙ whole

pub arguments_done : (front : List ℤ) (kinds : List ArgKind) (i : ℕ) (words : List (List ℕ)) (all : Option (List ℤ)) → length kinds ≤ i → behind front (arguments_of (drop i kinds) words) ≡ all → Some front ≡ all
arguments_done front kinds i words all past whole =
    sym (arguments_of-end front words) ∙ ap (λ (ks : List ArgKind). behind front (arguments_of ks words)) (sym (drop_all i kinds past)) ∙ whole

-- what is judged of the arguments of a call
pub by_truth : {P : Type 0} (b : Bool) → (b ≡ true → P) → (b ≡ false → P) → P
by_truth true if_true if_false = if_true refl
by_truth false if_true if_false = if_false refl

eqb-same : (one other : ℕ) → one ≡ other → eqb one other ≡ true
eqb-same one other h = grind (arith, nat_tests)

eqb-not : (one other : ℕ) → one ≢ other → eqb one other ≡ false
eqb-not one other h = by_truth (eqb one other) (λ is. absurd (h (eqb-true one other is))) (λ not. not)

module _ (kinds : List ArgKind) (words : List (List ℕ)) where
  pub judged_arguments-wrong : length words ≢ length kinds → Err WrongCount ≡ judged_arguments kinds words
  unfolding judged_arguments
  judged_arguments-wrong other = rw (eqb-not (length words) (length kinds) other) refl

  pub judged_arguments-read : (all : Option (List ℤ)) → length words ≡ length kinds → all ≡ arguments_of kinds words → ok_or all BadNumber ≡ judged_arguments kinds words
  unfolding judged_arguments
  judged_arguments-read all same is = rw (eqb-same (length words) (length kinds) same) (ap (λ (o : Option (List ℤ)). ok_or o BadNumber) is)

  -- where a word spells no number, the words behind it are counted
  pub judged_arguments-behind : (after : List (List ℕ)) (count i : ℕ) → length words ≡ i + 1 + length after → length kinds ≡ i + 1 + count → None ≡ arguments_of kinds words
      → Err (cond (eqb (length after) count) BadNumber WrongCount) ≡ judged_arguments kinds words
  judged_arguments-behind after count i many left none =
      by_truth (eqb (length after) count)
      (λ is. let same = eqb-true (length after) count is in rw is (judged_arguments-read None (omega arith) none))
      (λ not. let other : length after ≢ count = eqb-false (length after) count not in rw not (judged_arguments-wrong (omega arith)))

-- a call is judged by its arguments first
pub judged_call-arguments : (before : Before) (context id : ℕ) (kinds : List ArgKind) (words : List (List ℕ))
    → judged_call before context id kinds words ≡ (judged_arguments kinds words >>= (λ numbers. ok_or (call_of id numbers) OutOfRange >>= (λ call. body_in before context (Gl call))))
unfolding judged_call judged_arguments
judged_call-arguments before context id kinds words =
    by_truth (eqb (length words) (length kinds)) (λ is. rw is refl) (λ not. rw not refl)

pub ruleset judged = (judged_call-arguments)
