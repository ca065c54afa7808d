-- Reading a spelling: the header first, then the arguments of the call that it names, then the segments.
use Rattle.std.proofs.Common.{◌≡◌, ℕ, ◌+◌, ◌-◌, ◌^◌, ◌<◌, ◌≤◌, List, ◌∷◌, ◌++◌, length, map, sym, ap, ◌∙◌, arith}
use Rattle.std.specs.List.{flat_map, AllByRecursion}
use Rattle.std.proofs.lemmas.List.{length-append, length-map}
use Rattle.gl_words.specs.declared.call.Call.{Call}
use Rattle.gl_words.specs.Call.{id_of, arguments, IsInRange}
use Rattle.gl_memory.specs.Segment.{Segment}
use Rattle.gl_words.specs.Slots.{slot_of}
use Rattle.batch_pack.specs.Spelling.{Spelled, segment_spelling, IsSegment, slots_of, header_of, spelling_of, HasSpelling}
use Rattle.batch_pack.specs.Decoding.{id_said, slots_said, segments_said}
use Rattle.batch_pack.proofs.Spellings.{slots_of-parts, header_from_said, spelling_of-append, id_said-header_of, slots_said-header_of, segments_said-header_of}

small_slots : (header : ℕ) → slots_said header < 2 ^ 32
unfolding slots_said
small_slots header = omega arith

-- a header, arguments and segments as it says, and as many slots, are a spelling
module _ (header : ℕ) (rest behind left : List ℕ) (call : Call) (segments : List Segment) where
  abbrev read : Spelled
  read = record { call = call; segments = segments }

  -- how many slots were read before those that are left
  pub slots-read : rest ≡ map slot_of (arguments call) ++ behind → behind ≡ flat_map segment_spelling segments ++ left → 1 + (length rest - length left) ≡ slots_of read
  slots-read arguments_first segments_next =
      let e1 = ap length arguments_first ∙ length-append (map slot_of (arguments call)) behind in
      let e2 = ap length segments_next ∙ length-append (flat_map segment_spelling segments) left in
      omega (arith, length-map (arguments call) slot_of, slots_of-parts read)

  module _ (in_range : IsInRange call) (id : id_of call ≡ id_said header) (arguments_first : rest ≡ map slot_of (arguments call) ++ behind)
      (are : AllByRecursion IsSegment segments) (many : length segments ≡ segments_said header) (segments_next : behind ≡ flat_map segment_spelling segments ++ left)
      (few : segments_said header ≤ 8) (slots : 1 + (length rest - length left) ≡ slots_said header) where
    slots-said : slots_said header ≡ slots_of read
    slots-said = sym slots ∙ slots-read arguments_first segments_next

    pub read-HasSpelling : HasSpelling read
    read-HasSpelling = record {
      in_range = in_range;
      few = omega (arith, many);
      segments = are;
      short = omega (arith, slots-said, small_slots header);
    }

    pub read-spelled : header ∷ rest ≡ spelling_of read ++ left
    read-spelled =
        ap (λ (h : ℕ). h ∷ rest) (header_from_said header read (sym id) slots-said (sym many))
        ∙ ap (λ (s : List ℕ). header_of read ∷ s) (arguments_first ∙ ap (λ (s : List ℕ). map slot_of (arguments call) ++ s) segments_next)
        ∙ sym (spelling_of-append read left)

-- what slots say that begin with a spelling
module _ (header : ℕ) (rest more : List ℕ) (spelled : Spelled) (has : HasSpelling spelled) (begins : header ∷ rest ≡ spelling_of spelled ++ more) where
  written_out : header ∷ rest ≡ header_of spelled ∷ (map slot_of (arguments spelled.call) ++ (flat_map segment_spelling spelled.segments ++ more))
  written_out = begins ∙ spelling_of-append spelled more

  header_is : header ≡ header_of spelled
  header_is = let e = written_out in cc

  pub rest_is : rest ≡ map slot_of (arguments spelled.call) ++ (flat_map segment_spelling spelled.segments ++ more)
  rest_is = let e = written_out in cc

  pub id_is : id_of spelled.call ≡ id_said header
  id_is = sym (ap id_said header_is ∙ id_said-header_of spelled)

  pub slots_is : slots_said header ≡ slots_of spelled
  slots_is = ap slots_said header_is ∙ slots_said-header_of spelled has

  pub segments_is : length spelled.segments ≡ segments_said header
  segments_is = sym (ap segments_said header_is ∙ segments_said-header_of spelled has)

  pub few_said : segments_said header ≤ 8
  few_said = omega (arith, segments_is, has.few)

-- a spelling has a slot at least
pub not_empty : (slots more : List ℕ) (spelled : Spelled) → slots ≡ spelling_of spelled ++ more → length slots < 1 → ⊥
unfolding spelling_of
not_empty slots more spelled begins short =
    let e = ap length begins in
    absurd (omega arith)
