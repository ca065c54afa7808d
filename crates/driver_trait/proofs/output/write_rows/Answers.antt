use Rattle.std.proofs.Common.{◌≡◌, ℕ, List, [], ◌+◌, ◌-◌, length, min, take, drop, sym, ap, ◌∙◌, arith}
use Rattle.std.proofs.lemmas.Bool.Decides.{nat_tests}
use Rattle.std.proofs.lemmas.List.{take_min, drop_min, nil_from_length}
use Rattle.gl_memory.specs.ClientMemory.{written}
use Rattle.driver_trait.specs.Output.{rows_written}
use Rattle.driver_trait.proofs.Outputs.{rows_written-nil, rows_written-past, rows_written-first, rows_written-none}
use Rattle.driver_trait.proofs.output.write_rows.Goals as goal

pub loop-left-preserved : goal.loop-left-preserved
loop-left-preserved c =
    let left = c.loop-left.left in
    let at = c.loop-left.at in
    let row = c.args.row in
    let pitch = c.args.pitch in
    let rest = c.loop-left.rest.now in
    let memory = c.loop-left.memory in
    let count : c.min.result ≡ min row (length rest) = omega arith in
    record {
      same =
          ap (λ (l : List ℕ). rows_written (left - 1) (at + pitch) row pitch l c.write.new.self) (c.split_at.ensures.back ∙ ap (λ (n : ℕ). drop n rest) count ∙ drop_min row rest)
          ∙ ap (rows_written (left - 1) (at + pitch) row pitch (drop row rest))
          (c.write.ensures ∙ ap (written memory at) (c.split_at.ensures.front ∙ ap (λ (n : ℕ). take n rest) count ∙ take_min row rest))
          ∙ rows_written-first left at row pitch rest memory c.loop-left-test.true
          ∙ c.loop-left.invariant.same;
      low = omega arith;
    }

pub returns-else-at-from : goal.returns-else-at-from
returns-else-at-from c =
    sym (rows_written-past c.loop-left.left c.loop-left.at c.args.row c.args.pitch c.loop-left.rest.now c.loop-left.memory (omega arith))
    ∙ c.loop-left.invariant.same

pub returns-else-not-is_empty : goal.returns-else-not-is_empty
returns-else-not-is_empty c =
    let empty : c.loop-left.rest.now ≡ [] = nil_from_length c.loop-left.rest.now (grind (arith, nat_tests)) in
    sym (rows_written-nil c.loop-left.left c.loop-left.at c.args.row c.args.pitch c.loop-left.memory)
    ∙ sym (ap (λ (l : List ℕ). rows_written c.loop-left.left c.loop-left.at c.args.row c.args.pitch l c.loop-left.memory) empty)
    ∙ c.loop-left.invariant.same

pub returns-after-loop-left : goal.returns-after-loop-left
returns-after-loop-left c =
    sym (rows_written-none c.loop-left.left c.loop-left.at c.args.row c.args.pitch c.loop-left.rest.now c.loop-left.memory c.loop-left-test.false)
    ∙ c.loop-left.invariant.same
