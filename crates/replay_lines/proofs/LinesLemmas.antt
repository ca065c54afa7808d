-- Lines that follow one another, and the lines of a context.
use Rattle.std.proofs.Common.{◌≡◌, Bool, cond, ℕ, ◌+◌, ◌<◌, ◌==◌, take, drop, get_or, List, [], ◌∷◌, ◌++◌, length, refl, sym, ap, subst, ◌∙◌, append_assoc}
use Rattle.std.proofs.lemmas.List.{append-nil, take-append-drop}
use Rattle.std.proofs.lemmas.List.Elements.{filter_more, filter-append}
use Rattle.std.proofs.lemmas.Bool.{eq-eqb, ne_eqb}
use Rattle.gl_tracked.specs.declared.tracked.Tracked.{Tracked}
use Rattle.driver_trait.specs.Driver.{Steps}
use Rattle.script_reader.specs.declared.script.Line.{Line}
use Rattle.replay_lines.specs.Lines.{Ran, Standing, after_act, after_lines, told_at, told_by_lines, StepsAt, StepsThrough, lines_in}
use Rattle.replay_lines.specs.Moments.{Moment, moments_at, moments_by}
use Rattle.replay_lines.specs.Results.{DoneView}

-- lines, and then more
pub after_lines-append : (here : Standing) (ran more : List Ran) → after_lines here (ran ++ more) ≡ after_lines (after_lines here ran) more
unfolding after_lines
after_lines-append here [] more = refl
after_lines-append here (one ∷ ran) more = after_lines-append (after_act here one.line.act one.reply) ran more

pub told_by_lines-append : (here : Standing) (ran more : List Ran) → told_by_lines here (ran ++ more) ≡ told_by_lines here ran ++ told_by_lines (after_lines here ran) more
unfolding after_lines told_by_lines
told_by_lines-append here [] more = refl
told_by_lines-append here (one ∷ ran) more =
    let first = told_at here.memory one.line.number one.line.context one.line.act one.reply in
    let next = after_act here one.line.act one.reply in
    ap (λ (told : List DoneView). first ++ told) (told_by_lines-append next ran more)
    ∙ sym (append_assoc first (told_by_lines next ran) (told_by_lines (after_lines next ran) more))

pub moments_by-append : (here : Standing) (ran more : List Ran) → moments_by here (ran ++ more) ≡ moments_by here ran ++ moments_by (after_lines here ran) more
unfolding after_lines moments_by
moments_by-append here [] more = refl
moments_by-append here (one ∷ ran) more =
    let first = moments_at here one.line.act in
    let next = after_act here one.line.act one.reply in
    ap (λ (moments : List Moment). first ++ moments) (moments_by-append next ran more)
    ∙ sym (append_assoc first (moments_by next ran) (moments_by (after_lines next ran) more))

module _ {S : Type 0} (tracked : S → Tracked) (steps : Steps S) where
  pub StepsThrough-append : (here : Standing) (ran more : List Ran) (st mid st2 : S) → StepsThrough tracked steps here ran st mid → StepsThrough tracked steps (after_lines here ran) more mid st2 → StepsThrough tracked steps here (ran ++ more) st st2
  unfolding after_lines StepsThrough
  StepsThrough-append here [] more st mid st2 same rest = subst (λ (s : S). StepsThrough tracked steps here more s st2) same rest
  StepsThrough-append here (one ∷ ran) more st mid st2 (next, step, run) rest =
      (next, step, StepsThrough-append (after_act here one.line.act one.reply) ran more next mid st2 run rest)

  -- a line alone
  pub StepsThrough-one : (here : Standing) (one : Ran) (st st2 : S) → StepsAt tracked steps here one.line.act one.reply st st2 → StepsThrough tracked steps here (one ∷ []) st st2
  unfolding StepsThrough
  StepsThrough-one here one st st2 step = (st2, step, refl)

  -- no line
  pub StepsThrough-nil : (here : Standing) (st : S) → StepsThrough tracked steps here [] st st
  unfolding StepsThrough
  StepsThrough-nil here st = refl

pub after_lines-one : (here : Standing) (one : Ran) → after_lines here (one ∷ []) ≡ after_act here one.line.act one.reply
unfolding after_lines
after_lines-one here one = refl

pub after_lines-nil : (here : Standing) → after_lines here [] ≡ here
unfolding after_lines
after_lines-nil here = refl

pub told_by_lines-one : (here : Standing) (one : Ran) → told_by_lines here (one ∷ []) ≡ told_at here.memory one.line.number one.line.context one.line.act one.reply
unfolding told_by_lines
told_by_lines-one here one = append-nil (told_at here.memory one.line.number one.line.context one.line.act one.reply)

pub told_by_lines-nil : (here : Standing) → told_by_lines here [] ≡ []
unfolding told_by_lines
told_by_lines-nil here = refl

pub moments_by-one : (here : Standing) (one : Ran) → moments_by here (one ∷ []) ≡ moments_at here one.line.act
unfolding moments_by
moments_by-one here one = append-nil (moments_at here one.line.act)

pub moments_by-nil : (here : Standing) → moments_by here [] ≡ []
unfolding moments_by
moments_by-nil here = refl

-- the lines of a context so far, and the line behind them where it is the context's
pub lines_in-more : (context i : ℕ) (lines : List Line) (line : Line) → i < length lines → line ≡ get_or lines i line → lines_in context (take (i + 1) lines) ≡ lines_in context (take i lines) ++ cond (line.context == context) (line ∷ []) []
lines_in-more context i lines line inside is =
    filter_more (λ (l : Line). l.context == context) lines i line inside
    ∙ ap (λ (l : Line). lines_in context (take i lines) ++ cond (l.context == context) (l ∷ []) []) (sym is)

pub lines_in-its : (context i : ℕ) (lines : List Line) (line : Line) → i < length lines → line ≡ get_or lines i line → line.context ≡ context → lines_in context (take (i + 1) lines) ≡ lines_in context (take i lines) ++ line ∷ []
lines_in-its context i lines line inside is its =
    lines_in-more context i lines line inside is
    ∙ ap (λ (b : Bool). lines_in context (take i lines) ++ cond b (line ∷ []) []) (eq-eqb line.context context its)

pub lines_in-others : (context i : ℕ) (lines : List Line) (line : Line) → i < length lines → line ≡ get_or lines i line → (line.context ≡ context → ⊥) → lines_in context (take (i + 1) lines) ≡ lines_in context (take i lines)
lines_in-others context i lines line inside is other =
    lines_in-more context i lines line inside is
    ∙ ap (λ (b : Bool). lines_in context (take i lines) ++ cond b (line ∷ []) []) (ne_eqb line.context context other)
    ∙ append-nil (lines_in context (take i lines))

-- a line of the context, between those before it and those behind it
pub lines_in-around : (context i : ℕ) (lines : List Line) (line : Line) → i < length lines → line ≡ get_or lines i line → line.context ≡ context → lines_in context lines ≡ (lines_in context (take i lines) ++ line ∷ []) ++ lines_in context (drop (i + 1) lines)
lines_in-around context i lines line inside is its =
    ap (λ (ls : List Line). lines_in context ls) (sym (take-append-drop (i + 1) lines))
    ∙ filter-append (λ (l : Line). l.context == context) (take (i + 1) lines) (drop (i + 1) lines)
    ∙ ap (λ (ls : List Line). ls ++ lines_in context (drop (i + 1) lines)) (lines_in-its context i lines line inside is its)
