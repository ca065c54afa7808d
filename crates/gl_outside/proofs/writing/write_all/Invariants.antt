use Rattle.std.proofs.Common.{◌≡◌, ◌≤◌, ◌-◌, length, take}
use Rattle.gl_outside.specs.Moved.{Adds}
use Rattle.gl_outside.proofs.writing.write_all.Given as goal

abbrev pub invariant-writing : goal.invariant-writing
invariant-writing g l = record {
  added : Adds (g.K.Sink.held l.fn.sink) (g.K.Sink.held l.sink) (take l.written l.bytes);
  within : l.written ≤ length l.bytes;
  kept : g.K.Sink.faults l.sink ≡ g.K.Sink.faults l.fn.sink;
}

abbrev pub decreases-writing : goal.decreases-writing
decreases-writing g l = length l.bytes - l.written
