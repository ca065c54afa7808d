use Rattle.std.proofs.Common.{◌≡◌, ℕ, List, sym, ap, ◌∙◌, Some, None, Option, IfSome, IsSomeAnd, get_or, Fits, w64, map, drop, ◌++◌, Bor}
use Rattle.std.specs.Prelude.{unwrap_or}
use Rattle.std.specs.Option.{option_map}
use Rattle.gl_words.specs.Call.{id_of, arguments, IsInRange}
use Rattle.gl_words.specs.CallOf.{argument_count}
use Rattle.gl_words.specs.Slots.{slot_of, call_begun}
use Rattle.gl_words.proofs.Slotted.{Begins, call_begun-is, call_begun-again}
use Rattle.gl_words.specs.declared.call.Call.{Call}
use Rattle.gl_words.proofs.making.call_in.Goals as goal

-- a call that is read, and the slots behind it
abbrev Read : Type 0
Read = Call × Bor (List ℕ)

is_begun : (id : ℕ) (slots : List ℕ) (result : Option Read) → ((i : ℕ) → Fits w64 (get_or slots i 0)) → option_map (λ (read : Read). read.0) result ≡ call_begun id slots
    → IfSome result (λ (read : Read). read.1.now ≡ drop (unwrap_or (argument_count id) 0) slots) → IfSome result (λ (read : Read). Begins id slots (read.0) read.1.now)
is_begun id slots None fit h behind = tt
is_begun id slots (Some read) fit h behind =
    let begins = call_begun-is id slots (read.0) fit (sym h) in
    (begins.0, begins.1, begins.2 ∙ ap (λ (more : List ℕ). map slot_of (arguments (read.0)) ++ more) (sym behind))

pub returns-clause-found : goal.returns-clause-found
returns-clause-found c = is_begun c.args.id c.args.slots.now c.begun.result c.type_inv.slots c.begun.ensures.call c.begun.ensures.behind

is_read : (result : Option Read) (call : Call) → option_map (λ (read : Read). read.0) result ≡ Some call → IsSomeAnd result (λ (read : Read). read.0 ≡ call)
is_read None call h = absurd (cc)
is_read (Some read) call h = cc

only_begun : (id : ℕ) (slots : List ℕ) (result : Option Read) → option_map (λ (read : Read). read.0) result ≡ call_begun id slots
    → (call : Call) (more : List ℕ) → IsInRange call → id_of call ≡ id
    → slots ≡ map slot_of (arguments call) ++ more → IsSomeAnd result (λ (read : Read). read.0 ≡ call)
only_begun id slots result h call more in_range same begins =
    is_read result call (h ∙ ap (call_begun id) begins ∙ ap (λ (n : ℕ). call_begun n (map slot_of (arguments call) ++ more)) (sym same) ∙ call_begun-again call more in_range)

pub returns-clause-only : goal.returns-clause-only
returns-clause-only c = only_begun c.args.id c.args.slots.now c.begun.result c.begun.ensures.call
