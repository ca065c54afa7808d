use Rattle.std.proofs.Common.{ℕ, ap, ◌+◌, ◌∙◌}
use Rattle.gl_memory.specs.ClientMemory.{memory_of}
use Rattle.gl_memory.specs.Segment.{byte_at}
use Rattle.replay_lines.proofs.Taking.{taken-room, taken-more}
use Rattle.replay_lines.proofs.results.bytes_of.Goals as goal

pub push-requires : goal.push-requires
push-requires c = record { room = taken-room (memory_of c.args.memory.now) c.args.at c.from-count.result c.loop-place.place c.loop-place.image c.loop-place.invariant c.loop-place-test.true }

pub loop-place-preserved : goal.loop-place-preserved
loop-place-preserved c = taken-more (memory_of c.args.memory.now) c.args.at c.from-count.result c.loop-place.place c.loop-place.image c.push.new.self c.byte.result c.loop-place.invariant c.push.ensures (c.byte.ensures ∙ ap (λ (at : ℕ). byte_at (memory_of c.args.memory.now) (at + c.loop-place.place)) c.from.ensures)
