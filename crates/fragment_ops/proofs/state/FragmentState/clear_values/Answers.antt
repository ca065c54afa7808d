use Rattle.std.proofs.Common.{arith}
use Rattle.std.proofs.lemmas.Int.{ints}
use Rattle.fragment_ops.proofs.state.FragmentState.clear_values.Goals as goal

pub byte-requires : goal.byte-requires
byte-requires c = record { within = record { low = omega (arith, ints); high = omega (arith, ints) } }

pub byte-requires-2 : goal.byte-requires-2
byte-requires-2 c = record { within = record { low = omega (arith, ints); high = omega (arith, ints) } }

pub byte-requires-3 : goal.byte-requires-3
byte-requires-3 c = record { within = record { low = omega (arith, ints); high = omega (arith, ints) } }

pub byte-requires-4 : goal.byte-requires-4
byte-requires-4 c = record { within = record { low = omega (arith, ints); high = omega (arith, ints) } }
