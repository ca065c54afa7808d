use Rattle.std.proofs.Common.{ℕ, ◌-◌, ◌/◌, ◌%◌, ◌*◌, ◌^◌, ◌≤◌, length, slice_index, eq-eqb, ap, sym, ◌∙◌, arith}
use Rattle.std.proofs.lemmas.Bool.{eqb-true}
use Rattle.batch_pack.specs.Spelling.{slots_for}
use Rattle.batch_pack.proofs.SegmentLemmas.{slots_for-holds, LieIn-slots_for, slots_for-LieIn, take-filled, filled-zeros, AreSmall-lent}
use Rattle.batch_pack.proofs.decoder.is_filled.Goals as goal

pub returns-then-count-slots : goal.returns-then-count-slots
returns-then-count-slots c =
    (λ e. absurd (cc), λ h. absurd (omega (arith, slots_for-LieIn c.args.slots.now c.args.len (h.0), c.words_of-count.ensures.count)))

pub overflow_sub-result : goal.overflow_sub-result
overflow_sub-result c = omega (arith, slots_for-holds c.args.len, c.words_of-count.ensures.count)

pub bounds-slots-count : goal.bounds-slots-count
bounds-slots-count c = omega (arith, slots_for-holds c.args.len, c.words_of-count.ensures.count)

pub returns-then-used-eq0 : goal.returns-then-used-eq0
returns-then-used-eq0 c =
    let slots = c.args.slots.now in
    let room : slots_for c.args.len ≤ length slots = omega (arith, c.words_of-count.ensures.count) in (
      λ e. (LieIn-slots_for slots c.args.len room, take-filled slots c.args.len (λ place. (c.type_inv.slots place).fits) room (λ some. absurd (some c.if-used-eq0.true))),
      λ h. eq-eqb (c.args.len % 8) 0 c.if-used-eq0.true,
    )

pub returns-else-used-eq0 : goal.returns-else-used-eq0
returns-else-used-eq0 c =
    let slots = c.args.slots.now in
    let room : slots_for c.args.len ≤ length slots = omega (arith, c.words_of-count.ensures.count) in
    let last = ap (λ (n : ℕ). slice_index slots (n - 1) / 2 ^ (8 * (c.args.len % 8))) c.words_of-count.ensures.count in
    let fit = λ (place : ℕ). (c.type_inv.slots place).fits in (
      λ e. (LieIn-slots_for slots c.args.len room, take-filled slots c.args.len fit room (λ some. sym last ∙ eqb-true (slice_index slots (c.words_of-count.result - 1) / 2 ^ (8 * (c.args.len % 8))) 0 e)),
      λ h. eq-eqb (slice_index slots (c.words_of-count.result - 1) / 2 ^ (8 * (c.args.len % 8))) 0 (last ∙ filled-zeros slots c.args.len fit room (AreSmall-lent slots c.args.len (h.0)) (h.1) c.if-used-eq0.false),
    )
