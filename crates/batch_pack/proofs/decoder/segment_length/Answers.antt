use Rattle.std.proofs.Common.{◌≡◌, ℕ, List, sym, subst, take, slice_index, refl, arith}
use Rattle.gl_memory.specs.Slots.{LieIn, lent}
use Rattle.batch_pack.specs.Spelling.{slots_for, slots_of_bytes}
use Rattle.batch_pack.proofs.SegmentLemmas.{long_enough, in_range, holds_bytes, is_filled, IsSegment-read, segment_slots-read, spelled-read}
use Rattle.batch_pack.proofs.decoder.segment_length.Goals as goal

pub returns-then-slots-lt2-clause-only : goal.returns-then-slots-lt2-clause-only
returns-then-slots-lt2-clause-only c = λ segment more is begins.
    absurd (omega (arith, long_enough c.args.slots.now more segment is begins))

pub returns-then-not-is_range-clause-only : goal.returns-then-not-is_range-clause-only
returns-then-not-is_range-clause-only c = λ segment more is begins. c.if-not-is_range.ensures.1 (in_range c.args.slots.now more segment is begins)

pub returns-then-not-is_filled-clause-only : goal.returns-then-not-is_filled-clause-only
returns-then-not-is_filled-clause-only c = λ segment more is begins.
    let slots = c.args.slots.now in
    let len = slice_index slots 1 in
    c.if-not-is_filled.ensures.1 (
      subst (λ (s : List ℕ). LieIn s 0 len) (sym c.split_at.ensures.back) (holds_bytes slots more segment is begins),
      subst (λ (s : List ℕ). take (slots_for len) s ≡ slots_of_bytes (lent s 0 len)) (sym c.split_at.ensures.back) (is_filled slots more segment is begins),
    )

pub returns-clause-found : goal.returns-clause-found
returns-clause-found c =
    let slots = c.args.slots.now in
    let len = slice_index slots 1 in
    let checked = c.if-not-is_filled.ensures.0 refl in
    let range = c.if-not-is_range.ensures.0 refl in
    let there = subst (λ (s : List ℕ). LieIn s 0 len) c.split_at.ensures.back (checked.0) in
    let filled = subst (λ (s : List ℕ). take (slots_for len) s ≡ slots_of_bytes (lent s 0 len)) c.split_at.ensures.back (checked.1) in (
      IsSegment-read slots c.if-slots-lt2.false range there filled,
      segment_slots-read slots c.if-slots-lt2.false range there filled c.words_of.result c.words_of.ensures.count,
      spelled-read slots c.if-slots-lt2.false range there filled c.words_of.result c.words_of.ensures.count,
    )
