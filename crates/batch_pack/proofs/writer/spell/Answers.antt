use Rattle.std.proofs.Common.{ℕ, ℤ, List, [], ◌++◌, ◌∷◌, ◌+◌, ◌*◌, ◌^◌, length, map, ap, ◌∙◌, arith}
use Rattle.std.specs.List.{flat_map}
use Rattle.std.proofs.lemmas.List.{length-append, length-map}
use Rattle.gl_words.specs.Call.{id_of, arguments}
use Rattle.gl_memory.specs.ClientMemory.{memory_of}
use Rattle.gl_memory.specs.Piece.{cut}
use Rattle.batch_pack.specs.Batch.{captured}
use Rattle.gl_words.specs.Slots.{slot_of}
use Rattle.batch_pack.specs.Spelling.{segment_spelling}
use Rattle.batch_pack.proofs.Spellings.{slots_of-parts}
use Rattle.batch_pack.proofs.Writing.{header_of-captured, parts-captured}
use Rattle.batch_pack.proofs.Packings.{captured-HasSpelling}
use Rattle.batch_pack.proofs.writer.spell.Goals as goal

pub push_reserved-requires : goal.push_reserved-requires
push_reserved-requires c =
    let parts = slots_of-parts (captured c.args.call.now c.args.pieces.now c.args.bytes.now) in
    omega (arith, c.args.slots.now.ok, c.requires.heading.slots, c.requires.room)

pub spell_arguments-requires : goal.spell_arguments-requires
spell_arguments-requires c =
    let same = ap length (c.as_slice.ensures.numbers ∙ c.arguments_of-arguments.ensures.gives) in
    let parts = slots_of-parts (captured c.args.call.now c.args.pieces.now c.args.bytes.now) in
    let first = ap length c.push_reserved.ensures.items ∙ length-append c.args.slots.now.items (c.header.result ∷ []) in
    omega (arith, c.requires.heading.slots, c.requires.room, c.push_reserved.ensures.capacity)

pub spell_pieces-requires : goal.spell_pieces-requires
spell_pieces-requires c =
    let parts = slots_of-parts (captured c.args.call.now c.args.pieces.now c.args.bytes.now) in
    let first = ap length c.push_reserved.ensures.items ∙ length-append c.args.slots.now.items (c.header.result ∷ []) in
    let second = ap length c.spell_arguments.ensures.spelled ∙ length-append c.push_reserved.new.self.items (map slot_of c.as_slice.result.now) in
    let many = length-map c.as_slice.result.now slot_of in
    let same = ap length (c.as_slice.ensures.numbers ∙ c.arguments_of-arguments.ensures.gives) in
    omega (arith, c.requires.heading.slots, c.requires.room, c.push_reserved.ensures.capacity, c.spell_arguments.ensures.same_room)

pub returns-clause-spelled : goal.returns-clause-spelled
returns-clause-spelled c =
    let call = c.args.call.now in
    let pieces = c.args.pieces.now in
    let bytes = c.args.bytes.now in
    let old = c.args.slots.now.items in
    let same = c.as_slice.ensures.numbers ∙ c.arguments_of-arguments.ensures.gives in
    let behind = flat_map segment_spelling (cut pieces (memory_of bytes)) in
    let header = c.header.ensures ∙ ap (λ (n : ℕ). n + 2 ^ 16 * c.args.heading.slots + 2 ^ 48 * c.len.result) c.requires.heading.id ∙ ap (λ (n : ℕ). id_of call + 2 ^ 16 * c.args.heading.slots + 2 ^ 48 * n) c.len.ensures.len ∙ header_of-captured call pieces bytes c.args.heading.slots c.requires.heading.slots in
    c.spell_pieces.ensures.spelled
    ∙ ap (λ (s : List ℕ). s ++ behind) (c.spell_arguments.ensures.spelled ∙ ap (λ (zs : List ℤ). c.push_reserved.new.self.items ++ map slot_of zs) same ∙ ap (λ (s : List ℕ). s ++ map slot_of (arguments call)) (c.push_reserved.ensures.items ∙ ap (λ (n : ℕ). old ++ n ∷ []) header))
    ∙ parts-captured call pieces bytes old

pub returns-clause-has : goal.returns-clause-has
returns-clause-has c =
    captured-HasSpelling c.args.bytes.now (λ place. (c.type_inv.bytes place).fits) c.args.call.now c.args.pieces.now c.arguments_of-arguments.ensures.in_range c.len.ensures.pieces
    (omega (arith, c.len.ensures.len, c.len.ensures.few))
    (omega (arith, c.requires.heading.slots, c.requires.short))
