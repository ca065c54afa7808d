-- What memories that agree where a call reads have in common: names, indices, and the tracked state that the call leaves.
use Rattle.std.proofs.Common.{◌≡◌, ℕ, zero, suc, ◌+◌, ◌*◌, ◌<◌, ◌≤◌, ℤ, Bool, true, false, cond, eqb, List, [], ◌∷◌, ◌++◌, map, Option, Some, None, refl, subst, ap, arith}
use Rattle.std.specs.List.{range_with_len}
use Rattle.std.proofs.Math.Nat.{mul-le-mul_right}
use Rattle.std.proofs.lemmas.List.Elements.{All-cons, All-head, All-nil, All-tail}
use Rattle.gl_words.specs.declared.call.Call.{Call}
use Rattle.gl_words.specs.declared.call.Call.TheVariants.{DeleteBuffers}
use Rattle.gl_words.specs.declared.error.GlError.{GlError}
use Rattle.gl_memory.specs.Number.{u16_at, u32_at}
use Rattle.gl_memory.specs.Piece.{Agree, LiesIn}
use Rattle.gl_memory.specs.Segment.{Segment, byte_at}
use Rattle.gl_memory.specs.declared.piece.Piece.{Piece}
use Rattle.gl_tracked.specs.declared.tracked.Tracked.{Tracked}
use Rattle.gl_tracked.specs.Count.{count_drawn, count_of}
use Rattle.gl_tracked.specs.Fault.{fault_of}
use Rattle.gl_tracked.specs.Indices.{index_at, index_bytes, index_numbered, indices_at}
use Rattle.gl_tracked.specs.Names.{name_at, names_at, without_buffers}
use Rattle.gl_tracked.specs.Ranges.{range_of_indices, range_of_names, ranges_at, ranges_of_elements, takes_indices}
use Rattle.gl_tracked.specs.Reads.{AgreesOn}
use Rattle.gl_tracked.specs.Step.{ranges_of, reads_all, reads_by, reads_of, set_by, tracked_after, unless_fault}

-- functions that are the same at each number of a range make the same list of it
pub same_map : {A : Type 0} (f g : ℕ → A) (first count : ℕ) → ((number : ℕ) → first ≤ number → number < first + count → f number ≡ g number)
    → map f (range_with_len first count) ≡ map g (range_with_len first count)
same_map f g first zero same = refl
same_map f g first (suc count) same =
    cc (same first (omega arith) (omega arith), same_map f g (first + 1) count (λ number from below. same number (omega arith) (omega arith)))

module _ (m n : List Segment) where
  -- the same bytes in a range
  abbrev pub SameIn : Piece → Type 0
  SameIn range = (at : ℕ) → LiesIn at range → byte_at m at ≡ byte_at n at

  -- and so many from a place on
  abbrev SameFrom : ℕ → ℕ → Type 0
  SameFrom place bytes = (at : ℕ) → place ≤ at → at < place + bytes → byte_at m at ≡ byte_at n at

  four_bytes : (place : ℕ) → SameFrom place 4 → u32_at m place ≡ u32_at n place
  unfolding u32_at
  four_bytes place same =
      cc (
        same place (omega arith) (omega arith),
        same (place + 1) (omega arith) (omega arith),
        same (place + 2) (omega arith) (omega arith),
        same (place + 3) (omega arith) (omega arith),
      )

  two_bytes : (place : ℕ) → SameFrom place 2 → u16_at m place ≡ u16_at n place
  unfolding u16_at
  two_bytes place same = cc (same place (omega arith) (omega arith), same (place + 1) (omega arith) (omega arith))

  name_at-same : (place number : ℕ) → SameFrom (place + 4 * number) 4 → name_at m place number ≡ name_at n place number
  name_at-same place number same = four_bytes (place + 4 * number) same

  -- names are the same on memories that agree where they lie; section 2.9
  pub names_at-same : (place : ℕ) (count : ℤ) → SameIn (range_of_names place count) → names_at m place (count_of count) ≡ names_at n place (count_of count)
  unfolding names_at range_of_names
  names_at-same place count same =
      same_map (name_at m place) (name_at n place) 0 (count_of count)
      (λ number from below. name_at-same place number (λ at low high. same at (record { from = omega arith; below = omega arith })))

  -- a choice of two numbers, where each is the same on bytes that are chosen alike
  chosen : (b : Bool) (place one two x y x' y' : ℕ) → (SameFrom place one → x ≡ x') → (SameFrom place two → y ≡ y') → SameFrom place (cond b one two) → cond b x y ≡ cond b x' y'
  chosen true place one two x y x' y' first second same = first same
  chosen false place one two x y x' y' first second same = second same

  index_at-same : (kind place : ℕ) → SameFrom place (index_bytes kind) → index_at m kind place ≡ index_at n kind place
  unfolding index_at index_bytes
  index_at-same kind place =
      chosen (eqb kind 0x1401) place _ _ _ _ _ _ (λ same. same place (omega arith) (omega arith))
      (chosen (eqb kind 0x1403) place _ _ _ _ _ _ (λ same. two_bytes place same) (λ same. refl))

  -- an index ends where all of them do, or before
  index_within : (kind count number : ℕ) → number < count → number * index_bytes kind + index_bytes kind ≤ count * index_bytes kind
  index_within kind count number below =
      let some : suc number ≤ count = omega arith in
      let whole : suc number * index_bytes kind ≤ count * index_bytes kind = mul-le-mul_right (index_bytes kind) some in
      omega (arith, whole)

  -- indices are the same on memories that agree where they lie; section 2.8
  pub index_numbered-same : (kind place count number : ℕ) → number < count → SameIn (range_of_indices kind place count) → index_numbered m kind place number ≡ index_numbered n kind place number
  unfolding index_numbered range_of_indices
  index_numbered-same kind place count number below same =
      let ends = index_within kind count number below in
      index_at-same kind (place + number * index_bytes kind) (λ at low high. same at (record { from = omega arith; below = omega (arith, ends) }))

  everywhere : ((place : ℕ) → byte_at m place ≡ byte_at n place) → (ranges : List Piece) → Agree m n ranges
  everywhere same [] = All-nil SameIn
  everywhere same (range ∷ ranges) = All-cons SameIn range ranges (λ place lies. same place) (everywhere same ranges)

  -- memories that agree where a call without an error reads agree on its ranges
  pub agrees_ranges : (all : Bool) (ranges : List Piece) → AgreesOn m n (reads_by None all ranges) → Agree m n ranges
  agrees_ranges true ranges same = everywhere same ranges
  agrees_ranges false ranges agree = agree

  set_by-same : (tracked : Tracked) (call : Call) → Agree m n (ranges_of tracked call m) → set_by tracked call m ≡ set_by tracked call n
  unfolding set_by ranges_of
  set_by-same tracked (DeleteBuffers count names) agree =
      ap (λ (all : List ℕ). without_buffers all tracked) (names_at-same names count (All-head SameIn (range_of_names names count) [] agree))
  set_by-same tracked _ agree = refl

  after_by : (fault : Option GlError) (all : Bool) (ranges : List Piece) (before one other : Tracked) → AgreesOn m n (reads_by fault all ranges) → (Agree m n ranges → one ≡ other)
      → unless_fault fault before one ≡ unless_fault fault before other
  after_by None all ranges before one other agree same = same (agrees_ranges all ranges agree)
  after_by (Some error) all ranges before one other agree same = refl

  front : (xs ys : List Piece) → Agree m n (xs ++ ys) → Agree m n xs
  front [] ys all = All-nil SameIn
  front (x ∷ xs) ys all = All-cons SameIn x xs (All-head SameIn x (xs ++ ys) all) (front xs ys (All-tail SameIn x (xs ++ ys) all))

  back : (xs ys : List Piece) → Agree m n (xs ++ ys) → Agree m n ys
  back [] ys all = all
  back (x ∷ xs) ys all = back xs ys (All-tail SameIn x (xs ++ ys) all)

  -- what memories that agree where a draw by indices reads have in common, where the indices lie in them: the elements that they name, and the indices
  pub record AgreeOnElements (tracked : Tracked) (count : ℤ) (kind place : ℕ) : Type 0 where
    pub elements : Agree m n (ranges_at tracked (indices_at m kind place (count_drawn count)))
    pub indices : (number : ℕ) → number < count_drawn count → index_numbered m kind place number ≡ index_numbered n kind place number

  pub elements_agree : (tracked : Tracked) (count : ℤ) (kind place : ℕ) → takes_indices tracked ≡ true → Agree m n (ranges_of_elements tracked count kind place m) → AgreeOnElements tracked count kind place
  unfolding ranges_of_elements
  elements_agree tracked count kind place takes agree =
      let named = ranges_at tracked (indices_at m kind place (count_drawn count)) in
      let range = range_of_indices kind place (count_drawn count) in
      let whole : Agree m n (named ++ range ∷ []) = subst (λ (b : Bool). Agree m n (cond b (named ++ range ∷ []) [])) takes agree in
      record {
        elements = front named (range ∷ []) whole;
        indices = λ number below. index_numbered-same kind place (count_drawn count) number below (All-head SameIn range [] (back named (range ∷ []) whole));
      }

-- a call leaves the same tracked state on memories that agree where it reads
pub tracked_after-agrees : (tracked : Tracked) (call : Call) (m n : List Segment) → AgreesOn m n (reads_of tracked call m) → tracked_after tracked call m ≡ tracked_after tracked call n
unfolding tracked_after reads_of
tracked_after-agrees tracked call m n agree =
    after_by m n (fault_of tracked call) (reads_all tracked call) (ranges_of tracked call m) tracked (set_by tracked call m) (set_by tracked call n) agree (set_by-same m n tracked call)
