-- no call with one of the numbers so far has the name
use Rattle.std.proofs.Common.{◌≡◌, ◌≢◌, ℕ, ◌<◌, get_or}
use Rattle.gl_words.specs.Call.{name_of, id_of}
use Rattle.gl_words.specs.declared.call.Call.{Call}
use Rattle.gl_words.proofs.lookup.row_named.Given as goal

abbrev pub invariant-loop-id : goal.invariant-loop-id
invariant-loop-id l = (k : ℕ) → k < l.id-index → (call : Call) → id_of call ≡ get_or l.numbers k 0 → name_of call ≢ l.name
