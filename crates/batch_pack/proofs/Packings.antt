-- The slots of a batch before and after a call is packed.
use Rattle.std.proofs.Common.{◌≡◌, ℕ, ◌+◌, ◌-◌, ◌^◌, ◌<◌, ◌≤◌, List, [], ◌∷◌, ◌++◌, length, slice_index, refl, sym, ap, ◌∙◌, subst, arith}
use Rattle.std.specs.List.{All, AllByRecursion}
use Rattle.std.proofs.lemmas.List.{length-append}
use Rattle.std.proofs.lemmas.List.Elements.{All-from_get_or, All-head, All-tail, recursion_from_All}
use Rattle.gl_words.specs.declared.call.Call.{Call}
use Rattle.gl_words.specs.Call.{IsInRange}
use Rattle.gl_memory.specs.declared.piece.Piece.{Piece}
use Rattle.gl_memory.specs.ClientMemory.{memory_of}
use Rattle.gl_memory.specs.Piece.{IsPiece, bytes_from, cut_out, cut}
use Rattle.gl_memory.proofs.Bytes.{byte_at-memory_of}
use Rattle.gl_memory.proofs.Cuts.{length-bytes_from, slice_index-bytes_from}
use Rattle.batch_pack.specs.Spelling.{Spelled, slots_of, spelling_of, spellings_of, IsSegment, HasSpelling, HaveSpellings}
use Rattle.batch_pack.specs.Batch.{IsBatchSize, captured, slots_used, slots_left}
use Rattle.batch_pack.specs.Decoding.{calls_in}
use Rattle.batch_pack.specs.Holding.{IsHolding}
use Rattle.batch_pack.proofs.Writing.{length-cut}
use Rattle.batch_pack.proofs.Spellings.{length-spelling_of, spellings_of-append, spellings_of-one, HaveSpellings-append, AreReadable-spelled, calls_in-spelled}

pub calls_in-nil : calls_in [] ≡ []
calls_in-nil = calls_in-spelled [] [] tt (unfold spellings_of in refl)

pub slots_used-nil : slots_used [] ≡ 0
unfolding slots_used spellings_of
slots_used-nil = refl

pub slots_used-append : (calls more : List Spelled) → slots_used (calls ++ more) ≡ slots_used calls + slots_used more
unfolding slots_used
slots_used-append calls more = ap length (spellings_of-append calls more) ∙ length-append (spellings_of calls) (spellings_of more)

pub slots_used-one : (call : Spelled) → slots_used (call ∷ []) ≡ slots_of call
unfolding slots_used
slots_used-one call = ap length (spellings_of-one call) ∙ length-spelling_of call

-- ---- what is captured may be spelled

module _ (bytes : List ℕ) (small : (place : ℕ) → slice_index bytes place < 256) where
  bytes_from-small : (start len : ℕ) → AllByRecursion (λ byte. byte < 256) (bytes_from (memory_of bytes) start len)
  bytes_from-small start len =
      let whole = bytes_from (memory_of bytes) start len in
      recursion_from_All (λ byte. byte < 256) whole (All-from_get_or (λ byte. byte < 256) whole 0 (λ number below.
      subst (λ (byte : ℕ). byte < 256)
      (sym (slice_index-bytes_from (memory_of bytes) start len number (start + number) (omega (arith, length-bytes_from (memory_of bytes) start len)) refl ∙ byte_at-memory_of bytes (start + number)))
      (small (start + number))))

  cut_out-IsSegment : (piece : Piece) → IsPiece piece → IsSegment (cut_out (memory_of bytes) piece)
  unfolding cut_out
  cut_out-IsSegment piece is = record {
    some = omega (arith, length-bytes_from (memory_of bytes) piece.start piece.len, is.some);
    end = omega (arith, length-bytes_from (memory_of bytes) piece.start piece.len, is.end);
    bytes = bytes_from-small piece.start piece.len;
  }

  cut-segments : (pieces : List Piece) → All IsPiece pieces → AllByRecursion IsSegment (cut pieces (memory_of bytes))
  unfolding cut
  cut-segments [] are = tt
  cut-segments (piece ∷ pieces) are =
      (cut_out-IsSegment piece (All-head IsPiece piece pieces are), cut-segments pieces (All-tail IsPiece piece pieces are))

  -- a call in range with at most 8 pieces has a spelling, where it has few slots
  pub captured-HasSpelling : (call : Call) (pieces : List Piece) → IsInRange call → All IsPiece pieces → length pieces ≤ 8 → slots_of (captured call pieces bytes) < 2 ^ 32 → HasSpelling (captured call pieces bytes)
  captured-HasSpelling call pieces in_range are few short = record {
    in_range = in_range;
    few = omega (arith, few, length-cut bytes pieces);
    segments = cut-segments pieces are;
    short = short;
  }

-- ---- what a batch holds

pub IsHolding-nil : (room size : ℕ) → IsBatchSize size → size ≤ room → IsHolding [] room size
IsHolding-nil room size of_size has_room = record {
  readable = AreReadable-spelled [] [] tt (unfold spellings_of in refl);
  of_size = of_size;
  within = omega arith;
  has_room = has_room;
}

module _ (slots : List ℕ) (room size : ℕ) (holding : IsHolding slots room size) where
  pub slots_used-calls_in : slots_used (calls_in slots) ≡ length slots
  unfolding slots_used
  slots_used-calls_in = ap length (sym holding.readable.spelled)

  pub is_within : slots_used (calls_in slots) ≤ size
  is_within = omega (arith, slots_used-calls_in, holding.within)

  pub slots_left-is : slots_left (record { size = size; calls = calls_in slots }) ≡ size - length slots
  unfolding slots_left
  slots_left-is = ap (λ (n : ℕ). size - n) slots_used-calls_in

  module _ (call : Spelled) (has : HasSpelling call) where
    packed : slots ++ spelling_of call ≡ spellings_of (calls_in slots ++ call ∷ [])
    packed =
        ap (λ (s : List ℕ). s ++ spelling_of call) holding.readable.spelled
        ∙ sym (spellings_of-append (calls_in slots) (call ∷ []) ∙ ap (λ (s : List ℕ). spellings_of (calls_in slots) ++ s) (spellings_of-one call))

    all_have : HaveSpellings (calls_in slots ++ call ∷ [])
    all_have = HaveSpellings-append (calls_in slots) (call ∷ []) holding.readable.have (has, tt)

    pub calls_in-packed : calls_in (slots ++ spelling_of call) ≡ calls_in slots ++ call ∷ []
    calls_in-packed = calls_in-spelled (slots ++ spelling_of call) (calls_in slots ++ call ∷ []) all_have packed

    pub IsHolding-packed : length slots + slots_of call ≤ size → IsHolding (slots ++ spelling_of call) room size
    IsHolding-packed fits = record {
      readable = AreReadable-spelled (slots ++ spelling_of call) (calls_in slots ++ call ∷ []) all_have packed;
      of_size = holding.of_size;
      within = omega (arith, length-append slots (spelling_of call), length-spelling_of call);
      has_room = holding.has_room;
    }
