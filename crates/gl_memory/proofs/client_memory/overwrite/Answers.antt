use Rattle.std.proofs.Common.{◌≡◌, ℕ, ◌-◌, ◌+◌, length, take, min, ◌∙◌, ap, arith}
use Rattle.gl_memory.proofs.Writing.{put-is_written, written-past}
use Rattle.gl_memory.proofs.client_memory.overwrite.Goals as goal

pub returns-then-at-all : goal.returns-then-at-all
returns-then-at-all c =
    let count : c.args.at + c.min-count.result - c.args.at ≡ min (length c.args.bytes.now) (length c.args.all.now - c.args.at) = omega arith in
    put-is_written c.args.all.now c.args.at c.args.bytes.now c.copy_from_slice.new.self (c.args.at + c.min-count.result - c.args.at) c.if-at-all.true count
    (c.copy_from_slice.ensures.after ∙ ap (λ (n : ℕ). take n c.args.bytes.now) (omega arith))

pub returns-else-at-all : goal.returns-else-at-all
returns-else-at-all c = written-past c.args.all.now c.args.at c.args.bytes.now c.if-at-all.false
