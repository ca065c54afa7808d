-- A script that bytes spell is within the limits: what each line that was said adds to those before it.
use Rattle.std.proofs.Common.{◌≡◌, ℕ, suc, ◌+◌, ◌<◌, ◌≤◌, Bool, true, false, ◌||◌, cond, eqb, ltb, List, [], ◌∷◌, ◌++◌, length, length-append, refl, sym, ap, ◌∙◌, subst, arith, Result, Ok, Err, IfOk}
use Rattle.std.specs.List.{All, list_any, onto_first, sum_by}
use Rattle.std.proofs.lemmas.Bool.{or_from, cond_both, ltb-false, leb-false}
use Rattle.std.proofs.lemmas.List.Elements.{All-nil, All-cons, All-append}
use Rattle.std.proofs.lemmas.List.Sums.{sum_by-cons, sum_by_push}
use Rattle.script_reader.specs.Cutting.{lines_of, text_of}
use Rattle.script_reader.specs.Grammar.{before_of, contexts_in, lines_said, numbered, and_then, all_said, script_of, script_said, is_context, is_end}
use Rattle.script_reader.specs.Heard.{Reads, after}
use Rattle.script_reader.specs.ImageBytes.{context_bytes, line_bytes, said_bytes}
use Rattle.script_reader.specs.Judged.{◌>>=◌, judged, within_image_bytes, within_upload_bytes, within_sums, judged_within}
use Rattle.script_reader.specs.UploadBytes.{line_uploads, said_uploads}
use Rattle.script_reader.specs.Limits.{IsContext, IsLine, HasOneContext, IsWithinLimits}
use Rattle.script_reader.specs.declared.before.Before.{Before}
use Rattle.script_reader.specs.declared.before.Said.{Said}
use Rattle.script_reader.specs.declared.before.Said.TheVariants.{Nothing, Header, Context, Body, End}
use Rattle.script_reader.specs.declared.error.ScriptError.{ScriptError}
use Rattle.script_reader.specs.declared.error.ScriptFault.{ScriptFault}
use Rattle.script_reader.specs.declared.error.ReadRefusal.{ReadRefusal}
use Rattle.script_reader.specs.declared.script.ContextSpec.{ContextSpec}
use Rattle.script_reader.specs.declared.script.Line.{Line}
use Rattle.script_reader.specs.declared.script.Script.{Script}
use Rattle.script_reader.proofs.Fitting.{Fits, same_said, text_fits}
use Rattle.script_reader.proofs.Hearing.{before_of-push, contexts_in-push, lines_in-push}

-- a test that picks one of two results, of which the first is a refusal
by_refusal : {A E P : Type 0} (b : Bool) (error : E) (y : Result A E) (value : A) → cond b (Err error) y ≡ Ok value → (b ≡ false → y ≡ Ok value → P) → P
by_refusal true error y value h next = absurd (cc)
by_refusal false error y value h next = next refl h

-- what was said keeps to the sum of image bytes
by_images : {P : Type 0} (before : Before) (result : Result Said ScriptFault) (said : Said) → (result >>= within_image_bytes before) ≡ Ok said → (result ≡ Ok said → before.image_bytes + said_bytes said ≤ 67108864 → P) → P
by_images before (Err fault) said h next = absurd (cc)
by_images before (Ok value) said h next =
    by_refusal (ltb 67108864 (before.image_bytes + said_bytes value)) _ _ said h (λ few same.
    next same (subst (λ (s : Said). before.image_bytes + said_bytes s ≤ 67108864) (same_said value said same) (ltb-false 67108864 (before.image_bytes + said_bytes value) few)))

-- and to the sum of uploads
by_uploads : {P : Type 0} (before : Before) (result : Result Said ScriptFault) (said : Said) → (result >>= within_upload_bytes before) ≡ Ok said → (result ≡ Ok said → before.upload_bytes + said_uploads said ≤ 268435456 → P) → P
by_uploads before (Err fault) said h next = absurd (cc)
by_uploads before (Ok value) said h next =
    by_refusal (ltb 268435456 (before.upload_bytes + said_uploads value)) _ _ said h (λ few same.
    next same (subst (λ (s : Said). before.upload_bytes + said_uploads s ≤ 268435456) (same_said value said same) (ltb-false 268435456 (before.upload_bytes + said_uploads value) few)))

by_sums : {P : Type 0} (before : Before) (result : Result Said ScriptFault) (said : Said) → (result >>= within_sums before) ≡ Ok said → (result ≡ Ok said → before.image_bytes + said_bytes said ≤ 67108864 → before.upload_bytes + said_uploads said ≤ 268435456 → P) → P
by_sums before (Err fault) said h next = absurd (cc)
by_sums before (Ok value) said h next =
    by_uploads before (within_image_bytes before value) said h (λ h1 uploads.
    by_images before (Ok value) said h1 (λ same images. next same images uploads))

-- a line that was said ends within the bytes, is no more than the last line, keeps to the sums of image bytes and of uploads, and fits
record IsSaid (at : ℕ) (before : Before) (line : List ℕ) (said : Said) : Type 0 where
  few_bytes : at + length line ≤ 8388608
  few_lines : before.lines < 262144
  small_images : before.image_bytes + said_bytes said ≤ 67108864
  small_uploads : before.upload_bytes + said_uploads said ≤ 268435456
  fits : Fits before said

judged_within-is : (at : ℕ) (before : Before) (line : List ℕ) (said : Said) → judged_within at before line ≡ Ok said → IsSaid at before line said
unfolding judged_within
judged_within-is at before line said h =
    by_refusal _ _ _ said h (λ bytes h1.
    by_refusal _ _ _ said h1 (λ lines h2.
    by_sums before (judged before (text_of line)) said h2 (λ is small uploads.
    record {
      few_bytes = ltb-false 8388608 (at + length line) bytes;
      few_lines = leb-false 262144 before.lines lines;
      small_images = small;
      small_uploads = uploads;
      fits = (text_fits before (text_of line)).fits said is;
    })))

-- the contexts of lines that were said: at most one, and one where `end` came
abbrev IsFew : List ContextSpec → Bool → Type 0
IsFew [] ended = ended ≡ false
IsFew (context ∷ []) ended = IsContext context
IsFew (context ∷ second ∷ contexts) ended = ⊥

IsFew-push : (before : Before) (contexts : List ContextSpec) (said : Said) → before.contexts ≡ length contexts → IsFew contexts before.ended → Fits before said → IsFew (contexts ++ contexts_in (said ∷ [])) (before.ended || is_end said)
IsFew-push before [] Nothing counted few fits = or_from before.ended false few refl
IsFew-push before [] Header counted few fits = or_from before.ended false few refl
IsFew-push before [] (Context context) counted few fits = fits.0
IsFew-push before [] (Body line) counted few fits = or_from before.ended false few refl
IsFew-push before [] End counted few fits = absurd (fits counted)
IsFew-push before (context ∷ []) Nothing counted few fits = few
IsFew-push before (context ∷ []) Header counted few fits = few
IsFew-push before (context ∷ []) (Context second) counted few fits = let none : before.contexts < 1 = fits.1 in absurd (omega arith)
IsFew-push before (context ∷ []) (Body line) counted few fits = few
IsFew-push before (context ∷ []) End counted few fits = few
IsFew-push before (context ∷ second ∷ contexts) said counted few fits = absurd few

counted-push : (n : ℕ) (contexts : List ContextSpec) (said : Said) → n ≡ length contexts → n + cond (is_context said) 1 0 ≡ length (contexts ++ contexts_in (said ∷ []))
counted-push n contexts Nothing h = omega (arith, length-append contexts [])
counted-push n contexts Header h = omega (arith, length-append contexts [])
counted-push n contexts (Context context) h = omega (arith, length-append contexts (context ∷ []))
counted-push n contexts (Body line) h = omega (arith, length-append contexts [])
counted-push n contexts End h = omega (arith, length-append contexts [])

-- a body line that was said is within its limits
lines_in-are : (before : Before) (said : Said) → Fits before said → All IsLine (lines_said (said ∷ []))
lines_in-are before Nothing fits = All-nil IsLine
lines_in-are before Header fits = All-nil IsLine
lines_in-are before (Context context) fits = All-nil IsLine
lines_in-are before (Body line) fits = All-cons IsLine line [] fits (All-nil IsLine)
lines_in-are before End fits = All-nil IsLine

-- the lines so far, of which the last ends at this byte
record AreSaid (at : ℕ) (saids : List Said) : Type 0 where
  few_bytes : at ≤ 8388608
  few_lines : length saids ≤ 262144
  small_images : sum_by said_bytes saids ≤ 67108864
  small_uploads : sum_by said_uploads saids ≤ 268435456
  lines : All IsLine (lines_said saids)
  counted : (before_of saids).contexts ≡ length (contexts_in saids)
  few_contexts : IsFew (contexts_in saids) (before_of saids).ended

AreSaid-nothing : AreSaid 0 []
unfolding before_of
AreSaid-nothing = record {
  few_bytes = omega arith;
  few_lines = omega arith;
  small_images = omega arith;
  small_uploads = omega arith;
  lines = All-nil IsLine;
  counted = refl;
  few_contexts = refl;
}

before_of-lines : (saids : List Said) → (before_of saids).lines ≡ length saids
unfolding before_of
before_of-lines saids = refl

before_of-images : (saids : List Said) → (before_of saids).image_bytes ≡ sum_by said_bytes saids
unfolding before_of
before_of-images saids = refl

before_of-uploads : (saids : List Said) → (before_of saids).upload_bytes ≡ sum_by said_uploads saids
unfolding before_of
before_of-uploads saids = refl

before_of-ended : (saids : List Said) → (before_of saids).ended ≡ list_any is_end saids
unfolding before_of
before_of-ended saids = refl

AreSaid-push : (at : ℕ) (saids : List Said) (line : List ℕ) (said : Said) → AreSaid at saids → IsSaid at (before_of saids) line said → AreSaid (at + length line) (saids ++ said ∷ [])
AreSaid-push at saids line said are is =
    let before = before_of-push saids said in
    let contexts = contexts_in-push saids said in
    record {
      few_bytes = is.few_bytes;
      few_lines =
          let lines : (before_of saids).lines < 262144 = is.few_lines in
          omega (arith, length-append saids (said ∷ []), before_of-lines saids);
      small_images =
          let small : (before_of saids).image_bytes + said_bytes said ≤ 67108864 = is.small_images in
          omega (arith, sum_by_push said_bytes saids said, before_of-images saids);
      small_uploads =
          let small : (before_of saids).upload_bytes + said_uploads said ≤ 268435456 = is.small_uploads in
          omega (arith, sum_by_push said_uploads saids said, before_of-uploads saids);
      lines =
          subst (λ (ls : List Line). All IsLine ls) (sym (lines_in-push saids said))
          (All-append IsLine (lines_said saids) (lines_said (said ∷ [])) are.lines (lines_in-are (before_of saids) said is.fits));
      counted =
          ap (λ (b : Before). b.contexts) before
          ∙ counted-push ((before_of saids).contexts) (contexts_in saids) said are.counted
          ∙ ap (λ (cs : List ContextSpec). length cs) (sym contexts);
      few_contexts =
          subst (λ (b : Before). IsFew (contexts_in (saids ++ said ∷ [])) b.ended) (sym before)
          (subst (λ (cs : List ContextSpec). IsFew cs (after (before_of saids) said).ended) (sym contexts)
          (IsFew-push (before_of saids) (contexts_in saids) said are.counted are.few_contexts is.fits));
    }

bytes_in : List (List ℕ) → ℕ
bytes_in [] = 0
bytes_in (line ∷ lines) = length line + bytes_in lines

bytes_in-onto_first : (byte : ℕ) (lines : List (List ℕ)) → bytes_in (onto_first byte lines) ≡ suc (bytes_in lines)
unfolding bytes_in
bytes_in-onto_first byte [] = refl
bytes_in-onto_first byte (line ∷ lines) = omega arith

-- no byte is left out of the lines
bytes_in-lines_of : (bytes : List ℕ) → bytes_in (lines_of bytes) ≡ length bytes
unfolding bytes_in lines_of
bytes_in-lines_of [] = refl
bytes_in-lines_of (byte ∷ bytes) =
    cond_both (eqb byte 10) _ _ (λ (lines : List (List ℕ)). bytes_in lines ≡ length (byte ∷ bytes))
    (λ e. omega (arith, bytes_in-lines_of bytes))
    (λ e. omega (arith, bytes_in-lines_of bytes, bytes_in-onto_first byte (lines_of bytes)))

lines_in-few : (saids : List Said) → length (lines_said saids) ≤ length saids
lines_in-few [] = omega arith
lines_in-few (Nothing ∷ saids) = omega (arith, lines_in-few saids)
lines_in-few (Header ∷ saids) = omega (arith, lines_in-few saids)
lines_in-few (Context context ∷ saids) = omega (arith, lines_in-few saids)
lines_in-few (Body line ∷ saids) = omega (arith, lines_in-few saids)
lines_in-few (End ∷ saids) = omega (arith, lines_in-few saids)

-- the images of contexts and those of body lines are all images
images_in : (saids : List Said) → sum_by context_bytes (contexts_in saids) + sum_by line_bytes (lines_said saids) ≡ sum_by said_bytes saids
images_in [] = refl
images_in (Nothing ∷ saids) = omega (arith, images_in saids, sum_by-cons said_bytes Nothing saids)
images_in (Header ∷ saids) = omega (arith, images_in saids, sum_by-cons said_bytes Header saids)
images_in (Context context ∷ saids) =
    omega (arith, images_in saids, sum_by-cons said_bytes (Context context) saids, sum_by-cons context_bytes context (contexts_in saids))
images_in (Body line ∷ saids) =
    omega (arith, images_in saids, sum_by-cons said_bytes (Body line) saids, sum_by-cons line_bytes line (lines_said saids))
images_in (End ∷ saids) = omega (arith, images_in saids, sum_by-cons said_bytes End saids)

-- the uploads of body lines are all uploads
uploads_in : (saids : List Said) → sum_by line_uploads (lines_said saids) ≡ sum_by said_uploads saids
uploads_in [] = refl
uploads_in (Nothing ∷ saids) = omega (arith, uploads_in saids, sum_by-cons said_uploads Nothing saids)
uploads_in (Header ∷ saids) = omega (arith, uploads_in saids, sum_by-cons said_uploads Header saids)
uploads_in (Context context ∷ saids) = omega (arith, uploads_in saids, sum_by-cons said_uploads (Context context) saids)
uploads_in (Body line ∷ saids) =
    omega (arith, uploads_in saids, sum_by-cons said_uploads (Body line) saids, sum_by-cons line_uploads line (lines_said saids))
uploads_in (End ∷ saids) = omega (arith, uploads_in saids, sum_by-cons said_uploads End saids)

-- all lines were said, and `end` came
record AllAreSaid (size : ℕ) (saids : List Said) : Type 0 where
  few_bytes : size ≤ 8388608
  few_lines : length saids ≤ 262144
  small_images : sum_by said_bytes saids ≤ 67108864
  small_uploads : sum_by said_uploads saids ≤ 268435456
  lines : All IsLine (lines_said saids)
  one_context : HasOneContext (contexts_in saids)

one_where_ended : (contexts : List ContextSpec) (ended : Bool) → IsFew contexts ended → ended ≡ true → HasOneContext contexts
one_where_ended [] ended few came = absurd (cc)
one_where_ended (context ∷ []) ended few came = (context, refl, few)
one_where_ended (context ∷ second ∷ contexts) ended few came = absurd few

AllAreSaid-end : (at : ℕ) (saids : List Said) → AreSaid at saids → list_any is_end saids ≡ true → AllAreSaid at saids
AllAreSaid-end at saids are came = record {
  few_bytes = are.few_bytes;
  few_lines = are.few_lines;
  small_images = are.small_images;
  small_uploads = are.small_uploads;
  lines = are.lines;
  one_context = one_where_ended (contexts_in saids) ((before_of saids).ended) are.few_contexts (before_of-ended saids ∙ came);
}

by_end : {P : Type 0} (b : Bool) (saids all : List Said) (error : ScriptError) → cond b (Ok saids) (Err error) ≡ Ok all → (b ≡ true → saids ≡ all → P) → P
by_end true saids all error h next = next refl (cc)
by_end false saids all error h next = absurd (cc)

by_said : {A B P : Type 0} (before : List Said) (result : Result A ScriptFault) (next : A → Result B ScriptError) (value : B) → and_then (numbered before result) next ≡ Ok value → ((said : A) → result ≡ Ok said → next said ≡ Ok value → P) → P
by_said before (Ok said) next value h go_on = go_on said refl h
by_said before (Err fault) next value h go_on = absurd (cc)

by_all : {A B E P : Type 0} (result : Result A E) (next : A → Result B E) (value : B) → and_then result next ≡ Ok value → ((all : A) → result ≡ Ok all → next all ≡ Ok value → P) → P
by_all (Ok all) next value h go_on = go_on all refl h
by_all (Err error) next value h go_on = absurd (cc)

all_said-are : (at : ℕ) (saids : List Said) (lines : List (List ℕ)) (all : List Said) → AreSaid at saids → all_said at saids lines ≡ Ok all → AllAreSaid (at + bytes_in lines) all
unfolding all_said bytes_in
all_said-are at saids [] all are h =
    by_end (list_any is_end saids) saids all _ h (λ came same.
    subst (λ (n : ℕ). AllAreSaid n all) (omega arith) (subst (λ (s : List Said). AllAreSaid at s) same (AllAreSaid-end at saids are came)))
all_said-are at saids (line ∷ lines) all are h =
    by_said saids _ _ all h (λ said is rest.
    subst (λ (n : ℕ). AllAreSaid n all) (omega arith)
    (all_said-are (at + length line) (saids ++ said ∷ []) lines all (AreSaid-push at saids line said are (judged_within-is at (before_of saids) line said is)) rest))

same_script : (a b : Script) → ◌≡◌ {A = Result Script ScriptError} (Ok a) (Ok b) → a ≡ b
same_script a b e = cc

-- what bytes spell is within the limits
pub what_is_spelled_is_within : (bytes : List ℕ) (script : Script) → script_of bytes ≡ Ok script → IsWithinLimits bytes script
unfolding script_of
what_is_spelled_is_within bytes script h =
    by_all (all_said 0 [] (lines_of bytes)) script_said script h (λ all is made.
    let are = all_said-are 0 [] (lines_of bytes) all AreSaid-nothing is in
    subst (λ (s : Script). IsWithinLimits bytes s) (same_script _ script made) (record {
      few_bytes = let few : 0 + bytes_in (lines_of bytes) ≤ 8388608 = are.few_bytes in omega (arith, bytes_in-lines_of bytes);
      few_lines = let few : length all ≤ 262144 = are.few_lines in omega (arith, lines_in-few all);
      lines = are.lines;
      one_context = are.one_context;
      small_images = let small : sum_by said_bytes all ≤ 67108864 = are.small_images in omega (arith, images_in all);
      small_uploads = let small : sum_by said_uploads all ≤ 268435456 = are.small_uploads in omega (arith, uploads_in all);
    }))

-- and so is what a reader gives
pub what_is_read_is_within : (bytes : List ℕ) (result : Result Script ReadRefusal) → Reads (script_of bytes) result → IfOk result (λ (script : Script). IsWithinLimits bytes script)
what_is_read_is_within bytes (Ok script) h = what_is_spelled_is_within bytes script h
what_is_read_is_within bytes (Err refusal) h = tt
