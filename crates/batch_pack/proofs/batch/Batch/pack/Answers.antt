use Rattle.std.proofs.Common.{◌≡◌, ℕ, List, [], ◌∷◌, ◌++◌, ◌+◌, ◌≤◌, length, vec_capacity, ◌∙◌, sym, ap, subst, arith}
use Rattle.batch_pack.specs.Spelling.{Spelled, slots_of}
use Rattle.batch_pack.specs.Batch.{BatchView, captured, slots_left}
use Rattle.batch_pack.specs.Decoding.{calls_in}
use Rattle.batch_pack.specs.Heading.{IsHeadingOf}
use Rattle.batch_pack.specs.Holding.{IsHolding}
use Rattle.batch_pack.proofs.Packings.{slots_left-is, calls_in-packed, IsHolding-packed}
use Rattle.batch_pack.proofs.batch.Batch.pack.Goals as goal

pub spell-requires-clause-heading : goal.spell-requires-clause-heading
spell-requires-clause-heading c = subst (λ (bytes : List ℕ). IsHeadingOf c.args.heading (captured c.args.call.now c.args.pieces.now bytes)) (sym c.bytes.ensures.bytes) c.requires.heading

pub spell-requires-clause-short : goal.spell-requires-clause-short
spell-requires-clause-short c =
    let v = c.self.inside.slots in
    let left = ap slots_left (sym c.self.view_is) ∙ slots_left-is v.items (vec_capacity v) c.self.inside.size c.self.invariant in
    omega (arith, left, c.requires.fits, c.self.invariant.of_size)

pub spell-requires-clause-room : goal.spell-requires-clause-room
spell-requires-clause-room c =
    let v = c.self.inside.slots in
    let left = ap slots_left (sym c.self.view_is) ∙ slots_left-is v.items (vec_capacity v) c.self.inside.size c.self.invariant in
    omega (arith, left, c.requires.fits, c.self.invariant.within, c.self.invariant.has_room)

pub invariant_of-self : goal.invariant_of-self
invariant_of-self c =
    let v = c.self.inside.slots in
    let call = captured c.args.call.now c.args.pieces.now c.bytes.result.now in
    let left = ap slots_left (sym c.self.view_is) ∙ slots_left-is v.items (vec_capacity v) c.self.inside.size c.self.invariant in
    let count : c.args.heading.slots ≡ slots_of call = c.requires.heading.slots ∙ ap (λ (bytes : List ℕ). slots_of (captured c.args.call.now c.args.pieces.now bytes)) (sym c.bytes.ensures.bytes) in
    let fits : length v.items + slots_of call ≤ c.self.inside.size = omega (arith, left, count, c.self.invariant.within, c.requires.fits) in
    let held = IsHolding-packed v.items (vec_capacity v) c.self.inside.size c.self.invariant call c.spell.ensures.has fits in
    subst (λ (n : ℕ). IsHolding c.spell.new.slots.items n c.self.inside.size) (sym c.spell.ensures.same_room)
    (subst (λ (s : List ℕ). IsHolding s (vec_capacity v) c.self.inside.size) (sym c.spell.ensures.spelled) held)

pub returns : goal.returns
returns c =
    let v = c.self.inside.slots in
    let call = captured c.args.call.now c.args.pieces.now c.bytes.result.now in
    ap (λ (s : List ℕ). let p : BatchView = record { size = c.self.inside.size; calls = calls_in s } in p) c.spell.ensures.spelled
    ∙ ap (λ (cs : List Spelled). let p : BatchView = record { size = c.self.inside.size; calls = cs } in p) (calls_in-packed v.items (vec_capacity v) c.self.inside.size c.self.invariant call c.spell.ensures.has)
    ∙ ap (λ (q : BatchView). let p : BatchView = record { size = q.size; calls = q.calls ++ call ∷ [] } in p) c.self.view_is
    ∙ ap (λ (bytes : List ℕ). let p : BatchView = record { size = c.args.self.now.size; calls = c.args.self.now.calls ++ captured c.args.call.now c.args.pieces.now bytes ∷ [] } in p) c.bytes.ensures.bytes
