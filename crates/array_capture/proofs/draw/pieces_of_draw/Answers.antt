use Rattle.std.proofs.Common.{◌≡◌, suc, ◌<◌, pos, ◌<ℤ◌, sym, w32, ◌∙◌, arith}
use Rattle.std.proofs.lemmas.Int.{ints, to_z-of_z}
use Rattle.gl_memory.specs.ClientMemory.{memory_of}
use Rattle.array_capture.proofs.Drawing.{pieces_of_draw-before, pieces_of_draw-no_count, pieces_of_draw-some, pieces_of_draw-too_many}
use Rattle.array_capture.proofs.draw.pieces_of_draw.Goals as goal
use Rattle.array_capture.proofs.draw.pieces_of_draw.Goals.{then-first-lt0-via-then-first-lt0, then-first-lt0-via-else-first-lt0+then-count-lt1, then-first-lt0-via-else-first-lt0+else-count-lt1+then-count-gt-MOST}

pub returns-then-first-lt0 : goal.returns-then-first-lt0
returns-then-first-lt0 c =
    let tracked = c.args.tracked.now in
    let memory = memory_of c.args.memory.now in
    let first = c.args.first in
    let count = c.args.count in
    elim c.then-first-lt0.branch [
      | then-first-lt0-via-then-first-lt0 w ↦
          let before : first <ℤ pos 0 = omega (arith, ints, w.if-first-lt0.true) in
          c.new.ensures ∙ sym (pieces_of_draw-before tracked memory first count before)
      | then-first-lt0-via-else-first-lt0+then-count-lt1 w ↦
          let none : count <ℤ pos 1 = omega (arith, ints, w.if-count-lt1.true) in
          c.new.ensures ∙ sym (pieces_of_draw-no_count tracked memory first count none)
      | then-first-lt0-via-else-first-lt0+else-count-lt1+then-count-gt-MOST w ↦
          let many : pos 65536 <ℤ count = omega (arith, ints, w.if-count-gt-MOST.true) in
          c.new.ensures ∙ sym (pieces_of_draw-too_many tracked memory first count many)
    ]

pub returns : goal.returns
returns c =
    let least = c.unsigned-least.result in
    let more = c.unsigned.result in
    let at : c.args.first ≡ pos least = sym (to_z-of_z w32 c.args.first c.ranges.first) ∙ sym c.unsigned-least.ensures in
    let number : c.args.count ≡ pos (suc more) = omega (arith, ints, c.unsigned.ensures) in
    let few : more < 65536 = omega (arith, ints, c.unsigned.ensures, c.if-count-gt-MOST.false) in
    c.pieces_between.ensures.pieces
    ∙ sym (pieces_of_draw-some c.args.tracked.now c.args.first c.args.count least more (memory_of c.args.memory.now) at number few)
