-- Bytes of memory, one more.
use Rattle.std.proofs.Common.{◌≡◌, ℕ, ◌+◌, List, [], ◌∷◌, ◌++◌, refl}
use Rattle.std.proofs.lemmas.List.FromFn.{map-range_with_len_more}
use Rattle.gl_memory.specs.Piece.{bytes_from}
use Rattle.gl_memory.specs.Segment.{Segment, byte_at}

pub bytes_from-more : (memory : List Segment) (place count : ℕ) → bytes_from memory place (count + 1) ≡ bytes_from memory place count ++ byte_at memory (place + count) ∷ []
unfolding bytes_from
bytes_from-more memory place count = map-range_with_len_more (byte_at memory) place count (place + count) refl
