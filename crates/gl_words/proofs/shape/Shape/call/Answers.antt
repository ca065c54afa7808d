-- the call is made of the row of the shape's number
use Rattle.std.proofs.Common.{◌≡◌, ℕ, ℤ, List, Option, Some, map, sym, ap, ◌∙◌}
use Rattle.gl_words.specs.CallOf.{call_numbered, made_of, call_of}
use Rattle.gl_words.proofs.Makings.{map-itself}
use Rattle.gl_words.proofs.Slotted.{call_of-found, call_is_of, of_call_is}
use Rattle.gl_words.specs.declared.call.Call.{Call}
use Rattle.gl_words.proofs.shape.Shape.call.Goals as goal

made_is : (id : ℕ) (zero : Call) (args : List ℤ) (result : Option Call) → call_numbered id ≡ Some zero → result ≡ made_of zero (map (λ z. z) args) → result ≡ call_of id args
made_is id zero args result numbered is = is ∙ ap (made_of zero) (map-itself args) ∙ sym (call_of-found id zero args numbered)

pub returns-clause-gives : goal.returns-clause-gives
returns-clause-gives c = made_is c.args.self.now.id c.args.self.now.zero.now c.args.args.now c.made.result c.args.self.now.numbered c.made.ensures

pub returns-clause-found : goal.returns-clause-found
returns-clause-found c =
    call_is_of c.args.self.now.id c.args.args.now c.made.result
    (made_is c.args.self.now.id c.args.self.now.zero.now c.args.args.now c.made.result c.args.self.now.numbered c.made.ensures)

pub returns-clause-only : goal.returns-clause-only
returns-clause-only c =
    of_call_is c.args.self.now.id c.args.args.now c.made.result
    (made_is c.args.self.now.id c.args.self.now.zero.now c.args.args.now c.made.result c.args.self.now.numbered c.made.ensures)
