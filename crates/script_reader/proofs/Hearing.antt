-- What one more line adds to what is kept, and to what was judged.
use Rattle.std.proofs.Common.{◌≡◌, ℕ, ◌+◌, Bool, true, false, ◌||◌, cond, List, [], ◌∷◌, ◌++◌, length, length-append, refl, sym, ap, ◌∙◌, arith, Result, Ok, Err}
use Rattle.std.specs.Prelude.{count_by}
use Rattle.std.specs.List.{list_any, fold}
use Rattle.std.proofs.lemmas.List.Folds.{list_any-append}
use Rattle.std.proofs.lemmas.List.Sums.{sum_by_push}
use Rattle.script_reader.specs.ImageBytes.{said_bytes}
use Rattle.script_reader.specs.Judged.{judged_within}
use Rattle.script_reader.specs.UploadBytes.{said_uploads}
use Rattle.script_reader.specs.Grammar.{before_of, contexts_in, lines_said, numbered, and_then, all_said, script_of, script_said, says_something, is_context, is_body, is_end}
use Rattle.script_reader.specs.Heard.{IsHeard, RefusesAs, after}
use Rattle.script_reader.specs.declared.before.Before.{Before}
use Rattle.script_reader.specs.declared.before.Said.{Said}
use Rattle.script_reader.specs.declared.before.Said.TheVariants.{Nothing, Header, Context, Body, End}
use Rattle.script_reader.specs.declared.heard.Heard.{Heard}
use Rattle.script_reader.specs.Cutting.{lines_of}
use Rattle.script_reader.specs.declared.error.ScriptError.{ScriptError}
use Rattle.script_reader.specs.declared.error.ScriptFault.{ScriptFault}
use Rattle.script_reader.specs.declared.error.ScriptFault.TheVariants.{NoEnd}
use Rattle.script_reader.specs.declared.error.ReadRefusal.{ReadRefusal}
use Rattle.script_reader.specs.declared.error.ReadRefusal.TheVariants.{Bad, NoMemory}
use Rattle.script_reader.specs.declared.script.Script.{Script}
use Rattle.script_reader.specs.declared.script.ContextSpec.{ContextSpec}
use Rattle.script_reader.specs.declared.script.Line.{Line}

fold-push : {X Y : Type 0} (f : Y → X → Y) → (a : Y) (xs : List X) (x : X) → fold f a (xs ++ x ∷ []) ≡ f (fold f a xs) x
fold-push f a [] x = refl
fold-push f a (y ∷ ys) x = fold-push f (f a y) ys x

count_by-push : {X : Type 0} (p : X → Bool) → (xs : List X) (x : X) → count_by p (xs ++ x ∷ []) ≡ count_by p xs + cond (p x) 1 0
count_by-push p xs x = fold-push (λ a y. a + cond (p y) 1 0) 0 xs x

or-false : (b : Bool) → (b || false) ≡ b
or-false true = refl
or-false false = refl

list_any-push : {X : Type 0} (p : X → Bool) → (xs : List X) (x : X) → list_any p (xs ++ x ∷ []) ≡ (list_any p xs || p x)
list_any-push p xs x = list_any-append p xs (x ∷ []) ∙ ap (λ (b : Bool). list_any p xs || b) (or-false (p x))

pub before_of-push : (saids : List Said) (said : Said) → before_of (saids ++ said ∷ []) ≡ after (before_of saids) said
unfolding before_of
before_of-push saids said =
    let lines = length-append saids (said ∷ []) in
    let contexts = count_by-push is_context saids said in
    let images = sum_by_push said_bytes saids said in
    let uploads = sum_by_push said_uploads saids said in
    let begun = list_any-push says_something saids said in
    let bodied = list_any-push is_body saids said in
    let ended = list_any-push is_end saids said in
    cc

pub contexts_in-push : (saids : List Said) (said : Said) → contexts_in (saids ++ said ∷ []) ≡ contexts_in saids ++ contexts_in (said ∷ [])
contexts_in-push [] said = refl
contexts_in-push (Nothing ∷ saids) said = contexts_in-push saids said
contexts_in-push (Header ∷ saids) said = contexts_in-push saids said
contexts_in-push (Context context ∷ saids) said = ap (λ (contexts : List ContextSpec). context ∷ contexts) (contexts_in-push saids said)
contexts_in-push (Body line ∷ saids) said = contexts_in-push saids said
contexts_in-push (End ∷ saids) said = contexts_in-push saids said

pub lines_in-push : (saids : List Said) (said : Said) → lines_said (saids ++ said ∷ []) ≡ lines_said saids ++ lines_said (said ∷ [])
lines_in-push [] said = refl
lines_in-push (Nothing ∷ saids) said = lines_in-push saids said
lines_in-push (Header ∷ saids) said = lines_in-push saids said
lines_in-push (Context context ∷ saids) said = lines_in-push saids said
lines_in-push (Body line ∷ saids) said = ap (λ (lines : List Line). line ∷ lines) (lines_in-push saids said)
lines_in-push (End ∷ saids) said = lines_in-push saids said

pub IsHeard-push : (old new : Heard) (saids : List Said) (said : Said) → new.contexts ≡ old.contexts ++ contexts_in (said ∷ []) → new.lines ≡ old.lines ++ lines_said (said ∷ []) → new.before ≡ after old.before said → IsHeard old saids → IsHeard new (saids ++ said ∷ [])
IsHeard-push old new saids said contexts lines before heard = record {
  same_contexts = contexts ∙ ap (λ (cs : List ContextSpec). cs ++ contexts_in (said ∷ [])) heard.same_contexts ∙ sym (contexts_in-push saids said);
  same_lines = lines ∙ ap (λ (ls : List Line). ls ++ lines_said (said ∷ [])) heard.same_lines ∙ sym (lines_in-push saids said);
  same_before = before ∙ ap (λ (b : Before). after b said) heard.same_before ∙ sym (before_of-push saids said);
}

pub IsHeard-nothing : (heard : Heard) → heard.contexts ≡ [] → heard.lines ≡ [] → heard.before ≡ record { lines = 0; contexts = 0; image_bytes = 0; upload_bytes = 0; begun = false; bodied = false; ended = false } → IsHeard heard []
unfolding before_of
IsHeard-nothing heard contexts lines before = record { same_contexts = contexts; same_lines = lines; same_before = before }

abbrev numbered_at : ℕ → ScriptFault → Result Said ScriptError
numbered_at n fault = Err (record { line = n + 1; fault = fault })

abbrev numbered_script : ℕ → ScriptFault → Result Script ScriptError
numbered_script n fault = Err (record { line = n + 1; fault = fault })

abbrev script_with : List ContextSpec → List Line → Result Script ScriptError
script_with contexts lines = Ok (record { contexts = contexts; lines = lines })

-- judging goes on behind a line that says something
pub all_said-next : (at : ℕ) (saids : List Said) (line : List ℕ) (lines : List (List ℕ)) (said : Said) → judged_within at (before_of saids) line ≡ Ok said → all_said at saids (line ∷ lines) ≡ all_said (at + length line) (saids ++ said ∷ []) lines
unfolding all_said
all_said-next at saids line lines said h = ap (λ r. and_then (numbered saids r) (λ next. all_said (at + length line) (saids ++ next ∷ []) lines)) h

-- it ends at one that is faulty
pub all_said-fault : (at : ℕ) (saids : List Said) (line : List ℕ) (lines : List (List ℕ)) (error : ScriptError) → numbered saids (judged_within at (before_of saids) line) ≡ Err error → all_said at saids (line ∷ lines) ≡ Err error
unfolding all_said
all_said-fault at saids line lines error h = ap (λ r. and_then r (λ next. all_said (at + length line) (saids ++ next ∷ []) lines)) h

before_of-ended : (saids : List Said) → (before_of saids).ended ≡ list_any is_end saids
unfolding before_of
before_of-ended saids = refl

before_of-lines : (saids : List Said) → (before_of saids).lines ≡ length saids
unfolding before_of
before_of-lines saids = refl

pub lines_heard : (heard : Heard) (saids : List Said) → IsHeard heard saids → heard.before.lines ≡ length saids
lines_heard heard saids is = ap (λ (b : Before). b.lines) is.same_before ∙ before_of-lines saids

ended_heard : (heard : Heard) (saids : List Said) → IsHeard heard saids → heard.before.ended ≡ list_any is_end saids
ended_heard heard saids is = ap (λ (b : Before). b.ended) is.same_before ∙ before_of-ended saids

-- a line that is judged behind what is kept is judged behind the lines before it
pub judged_heard : (heard : Heard) (saids : List Said) (at : ℕ) (line : List ℕ) (judged : Result Said ScriptFault) → IsHeard heard saids → judged ≡ judged_within at heard.before line → judged_within at (before_of saids) line ≡ judged
judged_heard heard saids at line judged is h = ap (λ (b : Before). judged_within at b line) (sym is.same_before) ∙ sym h

pub numbered_heard : (heard : Heard) (saids : List Said) (at : ℕ) (line : List ℕ) (fault : ScriptFault) → IsHeard heard saids → judged_within at (before_of saids) line ≡ Err fault → numbered saids (judged_within at (before_of saids) line) ≡ Err (record { line = heard.before.lines + 1; fault = fault })
numbered_heard heard saids at line fault is h =
    ap (numbered saids) h ∙ ap (λ (n : ℕ). numbered_at n fault) (sym (lines_heard heard saids is))

-- the lines from here on, the first of which says something
pub lines_go_on : (at : ℕ) (saids : List Said) (rest line after : List ℕ) (said : Said) (all : Result (List Said) ScriptError) → lines_of rest ≡ line ∷ lines_of after → judged_within at (before_of saids) line ≡ Ok said → all_said at saids (lines_of rest) ≡ all → all_said (at + length line) (saids ++ said ∷ []) (lines_of after) ≡ all
lines_go_on at saids rest line after said all first h whole =
    sym (all_said-next at saids line (lines_of after) said h) ∙ ap (all_said at saids) (sym first) ∙ whole

-- the first of them is faulty, so the script is
pub lines_stop : (at : ℕ) (saids : List Said) (rest line after bytes : List ℕ) (refusal : ReadRefusal) → lines_of rest ≡ line ∷ lines_of after → RefusesAs (numbered saids (judged_within at (before_of saids) line)) refusal → all_said at saids (lines_of rest) ≡ all_said 0 [] (lines_of bytes) → RefusesAs (script_of bytes) refusal
unfolding script_of
lines_stop at saids rest line after bytes NoMemory first h whole = tt
lines_stop at saids rest line after bytes (Bad error) first h whole =
    ap (λ r. and_then r script_said) (sym whole ∙ ap (all_said at saids) first ∙ all_said-fault at saids line (lines_of after) error h)

lines_of-empty : (rest : List ℕ) → length rest ≡ 0 → lines_of rest ≡ []
unfolding lines_of
lines_of-empty [] none = refl
lines_of-empty (byte ∷ bytes) none = absurd (omega arith)

all_said-end : (at : ℕ) (saids : List Said) → list_any is_end saids ≡ true → all_said at saids [] ≡ Ok saids
unfolding all_said
all_said-end at saids h = ap (λ (b : Bool). cond b (Ok saids) (numbered saids (Err NoEnd))) h

all_said-no_end : (at : ℕ) (saids : List Said) → list_any is_end saids ≡ false → all_said at saids [] ≡ numbered saids (Err NoEnd)
unfolding all_said
all_said-no_end at saids h = ap (λ (b : Bool). cond b (Ok saids) (numbered saids (Err NoEnd))) h

-- no line is left, and `end` came
pub all_is_heard : (heard : Heard) (at : ℕ) (saids : List Said) (rest bytes : List ℕ) → IsHeard heard saids → length rest ≡ 0 → heard.before.ended ≡ true → all_said at saids (lines_of rest) ≡ all_said 0 [] (lines_of bytes) → script_of bytes ≡ Ok (record { contexts = heard.contexts; lines = heard.lines })
unfolding script_of
all_is_heard heard at saids rest bytes is none ended whole =
    ap (λ r. and_then r script_said) (sym whole ∙ ap (all_said at saids) (lines_of-empty rest none) ∙ all_said-end at saids (sym (ended_heard heard saids is) ∙ ended))
    ∙ ap (λ (cs : List ContextSpec). script_with cs (lines_said saids)) (sym is.same_contexts)
    ∙ ap (λ (ls : List Line). script_with heard.contexts ls) (sym is.same_lines)

-- no line is left, and no `end` came
pub no_end_is_heard : (heard : Heard) (at : ℕ) (saids : List Said) (rest bytes : List ℕ) → IsHeard heard saids → length rest ≡ 0 → heard.before.ended ≡ false → all_said at saids (lines_of rest) ≡ all_said 0 [] (lines_of bytes) → script_of bytes ≡ Err (record { line = heard.before.lines + 1; fault = NoEnd })
unfolding script_of
no_end_is_heard heard at saids rest bytes is none ended whole =
    ap (λ r. and_then r script_said) (sym whole ∙ ap (all_said at saids) (lines_of-empty rest none) ∙ all_said-no_end at saids (sym (ended_heard heard saids is) ∙ ended))
    ∙ ap (λ (n : ℕ). numbered_script n NoEnd) (sym (lines_heard heard saids is))
