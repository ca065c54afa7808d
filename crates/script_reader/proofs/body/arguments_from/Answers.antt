-- each word adds its number
use Rattle.std.proofs.lemmas.Int.{to_z-of_z}
use Rattle.std.proofs.Common.{◌≡◌, ◌∙◌, List, [], ◌∷◌, ◌++◌, ℤ, FitsSigned, w64, ap, drop, get_or, ◌+◌, length, length-append, arith, rules, Some, Err}
use Rattle.script_reader.specs.Judged.{arguments_of, value_of}
use Rattle.gl_words.specs.declared.shape.ArgKind.TheVariants.{Enum}
use Rattle.script_reader.specs.Cutting.{words_of}
use Rattle.script_reader.proofs.Fronts.{behind, arguments_stop, arguments_step, arguments_done, judged_arguments-wrong, judged_arguments-read, judged_arguments-behind}
use Rattle.script_reader.proofs.body.arguments_from.Goals as goal

pub returns-in_default : goal.returns-in_default
returns-in_default c =
    let none : words_of c.loop-kind.rest.now ≡ [] = search rules in
    let empty = ap length none in
    judged_arguments-wrong c.args.kinds.now (words_of c.args.text.now) (λ same. absurd (omega (arith, c.loop-kind.invariant.many)))

pub returns-in_default-argument_from : goal.returns-in_default-argument_from
returns-in_default-argument_from c =
    let first : words_of c.loop-kind.rest.now ≡ c.in-Some.word.now ∷ words_of c.in-Some.after.now = search rules in
    let some = ap length first in
    let numbers = ap length c.as_slice.ensures in
    ap Err c.fault_behind.ensures
    ∙ judged_arguments-behind c.args.kinds.now (words_of c.args.text.now) (words_of c.in-Some.after.now) _ c.loop-kind.kind-index
    (omega (arith, c.loop-kind.invariant.many))
    (omega (arith, c.loop-kind.invariant.count))
    (arguments_stop c.loop-kind.numbers c.args.kinds.now c.loop-kind.kind-index (words_of c.loop-kind.rest.now) c.in-Some.word.now (words_of c.in-Some.after.now) _ (omega arith) first (search rules) c.loop-kind.invariant.whole)

pub loop-kind-preserved : goal.loop-kind-preserved
loop-kind-preserved c =
    let fits : FitsSigned w64 c.value_from.result = search rules in
    let fits_before : FitsSigned w64 c.in-Some-argument_from.number = search rules in
    let first : words_of c.loop-kind.rest.now ≡ c.in-Some.word.now ∷ words_of c.in-Some.after.now = search rules in
    let some = ap length first in
    record {
      whole = ap (λ (ns : List ℤ). behind ns (arguments_of (drop (c.loop-kind.kind-index + 1) c.args.kinds.now) (words_of c.in-Some.after.now))) (c.push.ensures ∙ ap (λ (n : ℤ). c.loop-kind.numbers ++ n ∷ []) (to_z-of_z w64 c.value_from.result fits ∙ c.value_from.ensures ∙ ap (value_of (get_or c.args.kinds.now c.loop-kind.kind-index Enum)) (to_z-of_z w64 c.in-Some-argument_from.number fits_before)))
          ∙ arguments_step c.loop-kind.numbers c.args.kinds.now c.loop-kind.kind-index _ (words_of c.loop-kind.rest.now) c.in-Some.word.now (words_of c.in-Some.after.now) c.in-Some-argument_from.number _ (omega arith) (search rules) (search rules) c.loop-kind.invariant.whole;
      many = omega (arith, c.loop-kind.invariant.many);
      count = omega (arith, c.loop-kind.invariant.count, ap length c.push.ensures, length-append {A = ℤ});
    }

pub returns-then-count_words-ne0 : goal.returns-then-count_words-ne0
returns-then-count_words-ne0 c =
    let more = c.count_words.ensures in
    judged_arguments-wrong c.args.kinds.now (words_of c.args.text.now) (λ same. absurd (omega (arith, c.loop-kind.invariant.many)))

pub returns : goal.returns
returns c =
    let none = c.count_words.ensures in
    judged_arguments-read c.args.kinds.now (words_of c.args.text.now) (Some c.loop-kind.numbers)
    (omega (arith, c.loop-kind.invariant.many))
    (arguments_done c.loop-kind.numbers c.args.kinds.now c.loop-kind.kind-index (words_of c.loop-kind.rest.now) _ (omega arith) c.loop-kind.invariant.whole)
