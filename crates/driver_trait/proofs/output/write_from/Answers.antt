use Rattle.std.proofs.Common.{ℕ, ℤ, pos, List, ◌+◌, drop, get_or, sym, ap, ◌∙◌, arith, rules}
use Rattle.std.specs.List.{flat_map}
use Rattle.std.proofs.lemmas.Int.{to_z-of_z}
use mir.Syntax.{w64}
use mir.Val.{SFits}
use Rattle.std.proofs.lemmas.List.{at_drop_more, at_drop_all}
use Rattle.gl_memory.specs.ClientMemory.{written}
use Rattle.gl_memory.proofs.Writing.{written-past}
use Rattle.driver_trait.specs.Output.{number_bytes}
use Rattle.driver_trait.proofs.Outputs.{written-nil, written-number}
use Rattle.driver_trait.proofs.output.write_from.Goals as goal

pub returns-then-at-from : goal.returns-then-at-from
returns-then-at-from c =
    let rest = flat_map number_bytes (drop c.loop-number.number-index c.args.numbers.now) in
    written-past c.loop-number.memory c.loop-number.at rest (omega arith) ∙ c.loop-number.invariant.same

pub loop-number-preserved : goal.loop-number-preserved
loop-number-preserved c =
    let index = c.loop-number.number-index in
    let numbers = c.args.numbers.now in
    let number = get_or numbers index (pos 0) in
    let others = drop (index + 1) numbers in
    let at = c.loop-number.at in
    let fits : SFits w64 number = search rules in
    record {
      same =
          ap (λ (m : List ℕ). written m (at + 4) (flat_map number_bytes others)) (c.write.ensures ∙ ap (written c.loop-number.memory at) (c.number_bytes.ensures ∙ ap number_bytes (to_z-of_z w64 number fits)))
          ∙ written-number c.loop-number.memory at number others
          ∙ sym (at_drop_more (λ (l : List ℤ). written c.loop-number.memory at (flat_map number_bytes l)) numbers index (pos 0) c.loop-number-test.true)
          ∙ c.loop-number.invariant.same;
      low = omega arith;
    }

pub returns : goal.returns
returns c =
    sym (written-nil c.loop-number.memory c.loop-number.at)
    ∙ sym (at_drop_all (λ (l : List ℤ). written c.loop-number.memory c.loop-number.at (flat_map number_bytes l)) c.args.numbers.now c.loop-number.number-index c.loop-number-test.false)
    ∙ c.loop-number.invariant.same
