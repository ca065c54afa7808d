use Rattle.std.proofs.Common.{ℕ, take, drop, ap, ◌∙◌, arith}
use Rattle.batch_pack.proofs.Writing.{partial-some, partial-none}
use Rattle.batch_pack.proofs.writer.partial_word.Goals as goal
use Rattle.batch_pack.proofs.writer.partial_word.Goals.{then-at-bytes, else-at-bytes}

pub returns : goal.returns
returns c =
    let bytes = c.args.bytes.now in
    c.from_le_bytes.ensures
    ∙ elim c.if-at-bytes.branch [
      | then-at-bytes w ↦
          let copy = w.copy_from_slice.ensures.after ∙ ap (λ (n : ℕ). take n (drop c.args.at bytes)) (omega arith) in
          partial-some bytes c.if-at-bytes.word w.copy_from_slice.new.self c.args.at c.args.count w.min-there.result w.if-at-bytes.true w.min-there.ensures copy w.word-is
      | else-at-bytes w ↦ partial-none bytes c.if-at-bytes.word c.args.at c.args.count w.if-at-bytes.false w.word-is
    ]
