-- each word adds its number
use Rattle.std.proofs.Common.{◌≡◌, ◌∙◌, List, [], ◌∷◌, ◌++◌, ℤ, FitsSigned, w64, ap, length, length-append, arith, rules}
use Rattle.std.proofs.lemmas.Int.{to_z-of_z}
use Rattle.script_reader.specs.Judged.{numbers_of}
use Rattle.script_reader.specs.Cutting.{words_of}
use Rattle.script_reader.proofs.Fronts.{behind, numbers_stop, numbers_step, numbers_done}
use Rattle.script_reader.proofs.numbers.numbers_from.Goals as goal

pub returns-in_default-number_from : goal.returns-in_default-number_from
returns-in_default-number_from c =
    numbers_stop c.loop-word.numbers (words_of c.loop-word.rest.now) c.in-Some.word.now (words_of c.in-Some.after.now) _ (search rules) (search rules) c.loop-word.invariant.whole

pub loop-word-preserved : goal.loop-word-preserved
loop-word-preserved c =
    let first : words_of c.loop-word.rest.now ≡ c.in-Some.word.now ∷ words_of c.in-Some.after.now = search rules in
    let fits : FitsSigned w64 c.in-Some-number_from.number = search rules in
    record {
      whole = ap (λ (ns : List ℤ). behind ns (numbers_of (words_of c.in-Some.after.now))) (c.push.ensures ∙ ap (λ (n : ℤ). c.loop-word.numbers ++ n ∷ []) (to_z-of_z w64 c.in-Some-number_from.number fits))
          ∙ numbers_step c.loop-word.numbers (words_of c.loop-word.rest.now) c.in-Some.word.now (words_of c.in-Some.after.now) c.in-Some-number_from.number _ first (search rules) c.loop-word.invariant.whole;
      few = omega (arith, c.loop-word.invariant.few, ap length first, ap length c.push.ensures, length-append {A = ℤ});
    }

pub returns : goal.returns
returns c = numbers_done c.loop-word.numbers (words_of c.loop-word.rest.now) _ (search rules) c.loop-word.invariant.whole
