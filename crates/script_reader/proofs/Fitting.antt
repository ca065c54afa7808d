-- What one line may say: a context, a call, a write or an image within its limits.
use Rattle.std.proofs.Common.{◌≡◌, ℕ, ◌*◌, ◌<◌, ◌≤◌, ℤ, pos, negsuc, nat_abs, Bool, true, false, ◌&&◌, cond, ltb, leb, List, [], ◌∷◌, length, refl, sym, subst, arith, Some, None, Option, Result, Ok, Err, IfOk}
use Rattle.std.specs.Prelude.{not, ◌==◌, codes}
use Rattle.std.specs.List.{All, list_all}
use Rattle.std.specs.Option.{ok_or}
use Rattle.std.specs.Str.{bytes_eq}
use Rattle.std.proofs.lemmas.Bool.{and_parts, ltb-true, leb-true, eqb-false}
use Rattle.std.proofs.lemmas.Option.{cond_some}
use Rattle.std.proofs.Math.Nat.{mul-le-mul_left, mul-le-mul_right}
use Rattle.gl_words.specs.CallOf.{call_of}
use Rattle.gl_words.specs.Shape.{shape_named}
use Rattle.gl_words.specs.declared.shape.ArgKind.{ArgKind}
use Rattle.script_reader.specs.Cutting.{words_of}
use Rattle.script_reader.specs.Hex.{are_pairs, bytes_of, in_their_room}
use Rattle.script_reader.specs.ImageBytes.{image_bytes, act_bytes, said_bytes}
use Rattle.script_reader.specs.Judged.{◌>>=◌, numbers_of, arguments_of, context_of, judged_header, judged_context, judged_end, body_in, address_of, judged_mem, image_of, judged_image, judged_call, judged_body, judged_other, judged_counting, is_comment, judged_words, is_text_byte, judged}
use Rattle.script_reader.specs.Limits.{IsContext, IsImage, IsAct, IsLine}
use Rattle.script_reader.specs.Name.{name_of}
use Rattle.script_reader.specs.Number.{is_within, decimal_of, number_of}
use Rattle.script_reader.specs.declared.before.Before.{Before}
use Rattle.script_reader.specs.declared.before.Said.{Said}
use Rattle.script_reader.specs.declared.before.Said.TheVariants.{Nothing, Header, Context, Body, End}
use Rattle.script_reader.specs.declared.error.ScriptFault.{ScriptFault}
use Rattle.script_reader.specs.declared.script.Act.{Act}
use Rattle.script_reader.specs.declared.script.Act.TheVariants.{Mem, Image, Gl}
use Rattle.script_reader.specs.declared.script.ContextSpec.{ContextSpec}
use Rattle.script_reader.proofs.Pairs.{are_pairs-digits, paired-are_bytes}

-- what a line may say behind those before it: a context only as the first, and `end` only after a context
abbrev pub Fits : Before → Said → Type 0
Fits before (Context context) = IsContext context × (before.contexts < 1)
Fits before (Body line) = IsLine line
Fits before End = before.contexts ≡ 0 → ⊥
Fits before _ = Unit {0}

-- what is said fits, if something is
pub record Says (before : Before) (result : Result Said ScriptFault) : Type 0 where
  pub fits : (said : Said) → result ≡ Ok said → Fits before said

pub same_said : (a b : Said) → ◌≡◌ {A = Result Said ScriptFault} (Ok a) (Ok b) → a ≡ b
same_said a b e = cc

says : (before : Before) (said : Said) → Fits before said → Says before (Ok said)
says before said fits = record { fits = λ other e. subst (λ (s : Said). Fits before s) (same_said said other e) fits }

says_no : (before : Before) (fault : ScriptFault) → Says before (Err fault)
says_no before fault = record { fits = λ said e. absurd (cc) }

says_if : (before : Before) (b : Bool) (x y : Result Said ScriptFault) → (b ≡ true → Says before x) → (b ≡ false → Says before y) → Says before (cond b x y)
says_if before true x y when_true when_false = when_true refl
says_if before false x y when_true when_false = when_false refl

says_then : {A : Type 0} (before : Before) (o : Option A) (fault : ScriptFault) (next : A → Result Said ScriptFault) → ((value : A) → o ≡ Some value → Says before (next value)) → Says before (ok_or o fault >>= next)
says_then before None fault next each = says_no before fault
says_then before (Some value) fault next each = each value refl

-- a number within two others that aren't negative
is_within-bounds : (low high : ℕ) (number : ℤ) → is_within low high number ≡ true → (low ≤ nat_abs number) × (nat_abs number ≤ high)
is_within-bounds low high (pos number) h =
    let both : (leb low number ≡ true) × (leb number high ≡ true) = and_parts (leb low number) (leb number high) h in
    (leb-true low number (both.0), leb-true number high (both.1))
is_within-bounds low high (negsuc number) h = absurd (cc)

context_is : (others : ℕ) (which width height memory : ℤ) → (is_within others others which && is_within 1 256 width && is_within 1 256 height && is_within 0 1048576 memory) ≡ true → IsContext (record { width = nat_abs width; height = nat_abs height; memory = nat_abs memory })
context_is others which width height memory h =
    let all = and_parts (is_within others others which && is_within 1 256 width && is_within 1 256 height) (is_within 0 1048576 memory) h in
    let sides = and_parts (is_within others others which && is_within 1 256 width) (is_within 1 256 height) (all.0) in
    let first = and_parts (is_within others others which) (is_within 1 256 width) (sides.0) in
    let columns = is_within-bounds 1 256 width (first.1) in
    let rows = is_within-bounds 1 256 height (sides.1) in
    record {
      some_columns = columns.0;
      few_columns = columns.1;
      some_rows = rows.0;
      few_rows = rows.1;
      little_memory = (is_within-bounds 0 1048576 memory (all.1)).1;
    }

context_of-is : (others : ℕ) (numbers : List ℤ) (context : ContextSpec) → context_of others numbers ≡ Some context → IsContext context
unfolding context_of
context_of-is others [] context h = absurd (cc)
context_of-is others (which ∷ []) context h = absurd (cc)
context_of-is others (which ∷ width ∷ []) context h = absurd (cc)
context_of-is others (which ∷ width ∷ height ∷ []) context h = absurd (cc)
context_of-is others (which ∷ width ∷ height ∷ memory ∷ []) context h =
    let is = cond_some (is_within others others which && is_within 1 256 width && is_within 1 256 height && is_within 0 1048576 memory) _ _ h in
    subst (λ (c : ContextSpec). IsContext c) (is.1) (context_is others which width height memory (is.0))
context_of-is others (which ∷ width ∷ height ∷ memory ∷ more ∷ numbers) context h = absurd (cc)

header_fits : (before : Before) (first : List ℕ) (words : List (List ℕ)) → Says before (judged_header first words)
unfolding judged_header
header_fits before first [] = says_no before _
header_fits before first (second ∷ []) =
    says_if before (bytes_eq first (codes "glscript") && bytes_eq second (codes "1")) _ _ (λ e. says before Header tt) (λ e. says_no before _)
header_fits before first (second ∷ third ∷ others) = says_no before _

context_fits : (before : Before) (words : List (List ℕ)) → Says before (judged_context before words)
unfolding judged_context
context_fits before words =
    says_if before before.bodied _ _ (λ e. says_no before _) (λ e.
    says_if before (not (length words == 4)) _ _ (λ e. says_no before _) (λ e.
    says_then before (numbers_of words) _ _ (λ numbers e.
    says_then before (context_of before.contexts numbers) _ _ (λ context is.
    says_if before (ltb before.contexts 1) _ _ (λ few. says before (Context context) (context_of-is _ _ _ is, ltb-true before.contexts 1 few)) (λ e. says_no before _)))))

end_fits : (before : Before) (words : List (List ℕ)) → Says before (judged_end before words)
unfolding judged_end
end_fits before words =
    says_if before (before.contexts == 0) _ _ (λ e. says_no before _) (λ some.
    says_if before (length words == 0) _ _ (λ e. says before End (eqb-false before.contexts 0 some)) (λ e. says_no before _))

body_in_fits : (before : Before) (context : ℕ) (act : Act) → IsAct act → Says before (body_in before context act)
body_in_fits before context act is =
    says_if before (ltb context before.contexts) _ _ (λ e. says before (Body _) is) (λ e. says_no before _)

address_of-is : (number : ℤ) (at : ℕ) → address_of number ≡ Some at → at ≤ 4294967295
address_of-is number at h =
    let is = cond_some (is_within 0 4294967295 number) _ _ h in
    subst (λ (n : ℕ). n ≤ 4294967295) (is.1) ((is_within-bounds 0 4294967295 number (is.0)).1)

bytes_of-are : (word bytes : List ℕ) → bytes_of word ≡ Some bytes → All (λ byte. byte < 256) bytes
unfolding bytes_of
bytes_of-are word bytes h =
    let is = cond_some (are_pairs word) _ _ h in
    subst (λ (bs : List ℕ). All (λ byte. byte < 256) bs) (is.1) (paired-are_bytes word (are_pairs-digits word (is.0)))

mem_fits : (before : Before) (context : ℕ) (words : List (List ℕ)) → Says before (judged_mem before context words)
unfolding judged_mem
mem_fits before context [] = says_no before _
mem_fits before context (place ∷ []) = says_no before _
mem_fits before context (place ∷ digits ∷ []) =
    says_then before (number_of place) _ _ (λ number e.
    says_then before (bytes_of digits) _ _ (λ bytes spelled.
    says_then before (address_of number) _ _ (λ at near.
    body_in_fits before context (Mem at (in_their_room bytes)) (record { near = address_of-is number at near; are_bytes = bytes_of-are digits bytes spelled }))))
mem_fits before context (place ∷ digits ∷ more ∷ words) = says_no before _

image_is : (width height place : ℤ) → (is_within 1 256 width && is_within 1 256 height && is_within 0 4294967295 place) ≡ true → IsImage (nat_abs width) (nat_abs height) (nat_abs place)
image_is width height place h =
    let all = and_parts (is_within 1 256 width && is_within 1 256 height) (is_within 0 4294967295 place) h in
    let sides = and_parts (is_within 1 256 width) (is_within 1 256 height) (all.0) in
    let columns = is_within-bounds 1 256 width (sides.0) in
    let rows = is_within-bounds 1 256 height (sides.1) in
    record {
      some_columns = columns.0;
      few_columns = columns.1;
      some_rows = rows.0;
      few_rows = rows.1;
      near = (is_within-bounds 0 4294967295 place (all.1)).1;
    }

image_of-is : (name : List ℕ) (numbers : List ℤ) (image : Act) → image_of name numbers ≡ Some image → IsAct image
unfolding image_of
image_of-is name [] image h = absurd (cc)
image_of-is name (width ∷ []) image h = absurd (cc)
image_of-is name (width ∷ height ∷ []) image h = absurd (cc)
image_of-is name (width ∷ height ∷ place ∷ []) image h =
    let is = cond_some (is_within 1 256 width && is_within 1 256 height && is_within 0 4294967295 place) _ _ h in
    subst IsAct (is.1) (image_is width height place (is.0))
image_of-is name (width ∷ height ∷ place ∷ more ∷ numbers) image h = absurd (cc)

image_fits : (before : Before) (context : ℕ) (words : List (List ℕ)) → Says before (judged_image before context words)
unfolding judged_image
image_fits before context [] = says_no before _
image_fits before context (word ∷ words) =
    says_if before (not (length words == 3)) _ _ (λ e. says_no before _) (λ e.
    says_then before (name_of word) _ _ (λ name e.
    says_then before (numbers_of words) _ _ (λ numbers e.
    says_then before (image_of name numbers) _ _ (λ image is.
    body_in_fits before context image (image_of-is name numbers image is)))))

call_fits : (before : Before) (context id : ℕ) (kinds : List ArgKind) (words : List (List ℕ)) → Says before (judged_call before context id kinds words)
unfolding judged_call
call_fits before context id kinds words =
    says_if before (not (length words == length kinds)) _ _ (λ e. says_no before _) (λ e.
    says_then before (arguments_of kinds words) _ _ (λ numbers e.
    says_then before (call_of id numbers) _ _ (λ call e.
    body_in_fits before context (Gl call) tt)))

body_fits : (before : Before) (context : ℕ) (words : List (List ℕ)) → Says before (judged_body before context words)
unfolding judged_body
body_fits before context [] = says_no before _
body_fits before context (word ∷ words) =
    says_if before (bytes_eq word (codes "mem")) _ _ (λ e. mem_fits before context words) (λ e.
    says_if before (bytes_eq word (codes "image")) _ _ (λ e. image_fits before context words) (λ e.
    says_then before (shape_named word) _ _ (λ shape e. call_fits before context (shape.0) (shape.1) words)))

other_fits : (before : Before) (context : Option ℕ) (words : List (List ℕ)) → Says before (judged_other before context words)
unfolding judged_other
other_fits before None words = says_no before _
other_fits before (Some context) words = body_fits before context words

counting_fits : (before : Before) (first : List ℕ) (words : List (List ℕ)) → Says before (judged_counting before first words)
unfolding judged_counting
counting_fits before first words =
    says_if before before.ended _ _ (λ e. says_no before _) (λ e.
    says_if before (not before.begun) _ _ (λ e. header_fits before first words) (λ e.
    says_if before (bytes_eq first (codes "context")) _ _ (λ e. context_fits before words) (λ e.
    says_if before (bytes_eq first (codes "end")) _ _ (λ e. end_fits before words) (λ e. other_fits before (decimal_of first) words))))

words_fit : (before : Before) (words : List (List ℕ)) → Says before (judged_words before words)
unfolding judged_words
words_fit before [] = says before Nothing tt
words_fit before (first ∷ words) = says_if before (is_comment first) _ _ (λ e. says before Nothing tt) (λ e. counting_fits before first words)

pub text_fits : (before : Before) (text : List ℕ) → Says before (judged before text)
unfolding judged
text_fits before text = says_if before (list_all is_text_byte text) _ _ (λ e. words_fit before (words_of text)) (λ e. says_no before _)

small_image : (width height : ℕ) → width ≤ 256 → height ≤ 256 → image_bytes width height ≤ 196608
small_image width height columns rows =
    let row : width * height ≤ 256 * height = mul-le-mul_right height columns in
    let all : 256 * height ≤ 256 * 256 = mul-le-mul_left 256 rows in
    omega arith

act_is_small : (act : Act) → IsAct act → act_bytes act ≤ 196608
act_is_small (Mem at bytes) is = omega arith
act_is_small (Image name width height at) is = small_image width height is.few_columns is.few_rows
act_is_small (Gl call) is = omega arith

said_is_small : (before : Before) (said : Said) → Fits before said → said_bytes said ≤ 196608
said_is_small before Nothing fits = omega arith
said_is_small before Header fits = omega arith
said_is_small before (Context context) fits = small_image context.width context.height ((fits.0).few_columns) ((fits.0).few_rows)
said_is_small before (Body line) fits = act_is_small line.act fits
said_is_small before End fits = omega arith

-- the image that comes of what a line says is no larger than 256 by 256
pub what_is_judged_is_small : (before : Before) (words : List (List ℕ)) (result : Result Said ScriptFault) → result ≡ judged_words before words → IfOk result (λ said. said_bytes said ≤ 196608)
what_is_judged_is_small before words (Ok said) h = said_is_small before said ((words_fit before words).fits said (sym h))
what_is_judged_is_small before words (Err fault) h = tt
