-- A vertex is the same on memories that have the same bytes where its elements lie.
use Rattle.std.proofs.Common.{◌≡◌, ℕ, suc, ◌+◌, ◌*◌, ◌<◌, ◌≤◌, ℤ, pos, Bool, true, false, eqb, if◌then◌else◌, List, refl, ap, arith}
use Rattle.std.specs.Prelude.{nat_lt}
use Rattle.std.specs.Int.{cast_signed, w8, w16, w32}
use Rattle.std.proofs.lemmas.Bool.{ltb-true}
use Rattle.std.proofs.lemmas.Nat.{mul-le}
use Rattle.gl_memory.specs.Number.{u16_at, u32_at, i32_at}
use Rattle.gl_memory.specs.Piece.{LiesIn}
use Rattle.gl_memory.specs.declared.piece.Piece.{Piece}
use Rattle.gl_memory.specs.Segment.{Segment, byte_at}
use Rattle.gl_tracked.specs.declared.tracked.ArrayState.{ArrayState}
use Rattle.gl_tracked.specs.Element.{element_at, element_bytes, number_bytes, number_count}
use Rattle.vertex_stage.specs.declared.stage.Stage.{Stage}
use Rattle.vertex_stage.specs.declared.stage.Texturing.{Texturing}
use Rattle.vertex_stage.specs.Vertex.{AgreeAt, AgreeIn, AgreeOn, CornersAgree, clip_position, colour_of, coordinates_of, corners_of, values_of, vertex_of}
use Rattle.vertex_stage.specs.Number.{element_part, element_parts, fixed_of, given_or, integer_at, missing}

module _ (m n : List Segment) where
  -- the same bytes, so many from a place on
  abbrev SameFrom : ℕ → ℕ → Type 0
  SameFrom place bytes = (at : ℕ) → place ≤ at → at < place + bytes → byte_at m at ≡ byte_at n at

  -- a choice of two integers, where each is the same on bytes that are chosen alike
  chosen : (b : Bool) (place one two : ℕ) (x y x' y' : ℤ) → (SameFrom place one → x ≡ x') → (SameFrom place two → y ≡ y')
      → SameFrom place (if b then one else two) → (if b then x else y) ≡ (if b then x' else y')
  chosen true place one two x y x' y' first second same = first same
  chosen false place one two x y x' y' first second same = second same

  one_byte : (place : ℕ) → SameFrom place 1 → byte_at m place ≡ byte_at n place
  one_byte place same = same place (omega arith) (omega arith)

  two_bytes : (place : ℕ) → SameFrom place 2 → u16_at m place ≡ u16_at n place
  unfolding u16_at
  two_bytes place same = cc (same place (omega arith) (omega arith), same (place + 1) (omega arith) (omega arith))

  four_bytes : (place : ℕ) → SameFrom place 4 → u32_at m place ≡ u32_at n place
  unfolding u32_at
  four_bytes place same =
      cc (
        same place (omega arith) (omega arith),
        same (place + 1) (omega arith) (omega arith),
        same (place + 2) (omega arith) (omega arith),
        same (place + 3) (omega arith) (omega arith),
      )

  four_signed : (place : ℕ) → SameFrom place 4 → i32_at m place ≡ i32_at n place
  unfolding i32_at
  four_signed place same = ap (cast_signed w32) (four_bytes place same)

  integer_at-same : (kind place : ℕ) → SameFrom place (number_bytes kind) → integer_at kind m place ≡ integer_at kind n place
  unfolding integer_at number_bytes
  integer_at-same kind place =
      chosen (eqb kind 0x1400) place _ _ _ _ _ _ (λ same. ap (cast_signed w8) (one_byte place same))
      (chosen (eqb kind 0x1401) place _ _ _ _ _ _ (λ same. ap pos (one_byte place same))
      (chosen (eqb kind 0x1402) place _ _ _ _ _ _ (λ same. ap (cast_signed w16) (two_bytes place same))
      (chosen (eqb kind 0x140C) place _ _ _ _ _ _ (λ same. four_signed place same) (λ same. refl))))

  -- the same bytes in a piece
  abbrev pub SameIn : Piece → Type 0
  SameIn piece = (at : ℕ) → LiesIn at piece → byte_at m at ≡ byte_at n at

  module _ (array : ArrayState) (place : ℕ) (same : SameIn (element_at array place)) where
    -- a number of an element ends where the element does
    number_within : (part : ℕ) → part < number_count array.size → part * number_bytes array.kind + number_bytes array.kind ≤ element_bytes array
    unfolding element_bytes
    number_within part within =
        let whole = mul-le (suc part) (number_bytes array.kind) (number_count array.size) (number_bytes array.kind) (omega (arith, within)) (omega arith) in
        omega (arith, whole)

    -- a part of the element as a memory has it, if it is there
    abbrev part_in : List Segment → ℕ → Bool → ℤ
    part_in memory part b =
        if b then fixed_of array.kind (integer_at array.kind memory ((element_at array place).start + part * number_bytes array.kind)) else missing part

    -- a byte of a number of the element is one of the element's
    number_lies : (part at : ℕ) → part * number_bytes array.kind + number_bytes array.kind ≤ element_bytes array
        → (element_at array place).start + part * number_bytes array.kind ≤ at
        → at < (element_at array place).start + part * number_bytes array.kind + number_bytes array.kind
        → LiesIn at (element_at array place)
    unfolding element_at
    number_lies part at ends from below = record { from = omega (arith, from); below = omega (arith, below, ends) }

    part_by : (part : ℕ) (b : Bool) → (b ≡ true → part * number_bytes array.kind + number_bytes array.kind ≤ element_bytes array) → part_in m part b ≡ part_in n part b
    part_by part false within = refl
    part_by part true within =
        ap (fixed_of array.kind) (integer_at-same array.kind ((element_at array place).start + part * number_bytes array.kind)
        (λ at from below. same at (number_lies part at (within refl) from below)))

    -- a part that is read in two memories
    pub part_in-same : (part : ℕ) → part_in m part (nat_lt part (number_count array.size)) ≡ part_in n part (nat_lt part (number_count array.size))
    part_in-same part = part_by part (nat_lt part (number_count array.size)) (λ is. number_within part (ltb-true part (number_count array.size) is))

module _ (m n : ℕ → List Segment) where
  module _ (array : ArrayState) (place : ℕ) (agree : AgreeOn m n array place) where
    part-same : (part : ℕ) → element_part array m place part ≡ element_part array n place part
    unfolding element_part
    part-same part = part_in-same (m array.buffer) (n array.buffer) array place agree part

    pub element_parts-same : element_parts array m place ≡ element_parts array n place
    unfolding element_parts
    element_parts-same = cc (part-same 0, part-same 1, part-same 2, part-same 3)

  given_by : (b : Bool) (one other current : List ℤ) → (b ≡ true → one ≡ other) → (if b then one else current) ≡ (if b then other else current)
  given_by true one other current same = same refl
  given_by false one other current same = refl

  given_or-same : (array : ArrayState) (current : List ℤ) (place : ℕ) → AgreeIn m n array place → given_or array current m place ≡ given_or array current n place
  unfolding given_or
  given_or-same array current place agree =
      given_by array.enabled (element_parts array m place) (element_parts array n place) current (λ on. element_parts-same array place (agree on))

  coordinates_of-same : (unit : Texturing) (place : ℕ) → AgreeIn m n unit.coordinates place → coordinates_of unit m place ≡ coordinates_of unit n place
  unfolding coordinates_of
  coordinates_of-same unit place agree = cc (given_or-same unit.coordinates unit.current place agree)

  module _ (stage : Stage) where
    clip_position-same : (place : ℕ) → AgreeAt stage m n place → clip_position stage m place ≡ clip_position stage n place
    unfolding clip_position
    clip_position-same place agree = cc (element_parts-same stage.vertex place agree.vertex)

    colour_of-same : (place : ℕ) → AgreeAt stage m n place → colour_of stage m place ≡ colour_of stage n place
    unfolding colour_of
    colour_of-same place agree = cc (given_or-same stage.colour stage.current_colour place agree.colour)

    values_of-same : (place : ℕ) → AgreeAt stage m n place → values_of stage m place ≡ values_of stage n place
    unfolding values_of
    values_of-same place agree =
        cc (colour_of-same place agree, coordinates_of-same stage.first_unit place agree.first_unit, coordinates_of-same stage.second_unit place agree.second_unit)

    pub vertex_of-same : (place : ℕ) → AgreeAt stage m n place → vertex_of stage m place ≡ vertex_of stage n place
    unfolding vertex_of
    vertex_of-same place agree = cc (clip_position-same place agree, values_of-same place agree)

    -- where two memories agree at the three places of a triangle, its corners are the same
    pub corners_of-same : (first second third : ℕ) → CornersAgree stage m n first second third
    unfolding corners_of
    corners_of-same first second third one two three =
        cc (vertex_of-same first one, vertex_of-same second two, vertex_of-same third three)
