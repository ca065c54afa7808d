-- An image is taken out of memory byte by byte.
use Rattle.std.proofs.Common.{◌≡◌, ℕ, ◌+◌, ◌<◌, List, [], ◌∷◌, ◌++◌, length, refl, sym, ap, ◌∙◌, arith}
use Rattle.std.proofs.lemmas.List.FromFn.{map-range_with_len_more}
use Rattle.gl_memory.specs.Segment.{Segment, byte_at}
use Rattle.gl_memory.specs.Piece.{bytes_from}
use Rattle.gl_memory.proofs.Cuts.{length-bytes_from}
use Rattle.gl_memory.specs.Room.{RoomView}

-- so many bytes of memory, in a room
abbrev pub bytes_in : List Segment → ℕ → ℕ → ℕ → RoomView ℕ
bytes_in memory start room len = record { items = bytes_from memory start len; room = room }

pub bytes_from-more : (memory : List Segment) (start len : ℕ) → bytes_from memory start (len + 1) ≡ bytes_from memory start len ++ byte_at memory (start + len) ∷ []
unfolding bytes_from
bytes_from-more memory start len = map-range_with_len_more (byte_at memory) start len (start + len) refl

pub taken-room : (memory : List Segment) (start room len : ℕ) (octets : RoomView ℕ) → octets ≡ bytes_in memory start room len → len < room → length octets.items < octets.room
taken-room memory start room len octets was below =
    let many = ap (λ (o : RoomView ℕ). length o.items) was ∙ length-bytes_from memory start len in
    let same = ap (λ (o : RoomView ℕ). o.room) was in
    omega (arith, many, same, below)

pub taken-more : (memory : List Segment) (start room len : ℕ) (old new : RoomView ℕ) (byte : ℕ) → old ≡ bytes_in memory start room len → new ≡ record old { items = old.items ++ byte ∷ [] } → byte ≡ byte_at memory (start + len) → new ≡ bytes_in memory start room (len + 1)
taken-more memory start room len old new byte was added same =
    added
    ∙ ap (λ (o : RoomView ℕ). record o { items = o.items ++ byte ∷ [] }) was
    ∙ ap (λ (b : ℕ). let o : RoomView ℕ = record { items = bytes_from memory start len ++ b ∷ []; room = room } in o) same
    ∙ ap (λ (items : List ℕ). let o : RoomView ℕ = record { items = items; room = room } in o) (sym (bytes_from-more memory start len))
