-- What a fragment and Clear leave of a cell, and blending at its ends.
use Rattle.std.proofs.Common.{◌≡◌, ℕ, zero, suc, ◌+◌, ◌*◌, ◌/◌, ◌<◌, ◌≤◌, Bool, true, false, cond, min, ◌&&◌, List, [], ◌∷◌, length, refl, sym, ap, ◌∙◌, arith, lit<}
use Rattle.std.specs.Prelude.{slice_index, slice_index_or}
use Rattle.std.proofs.lemmas.Bool.{and_left, and_right}
use Rattle.std.proofs.lemmas.Nat.{div-mul-add}
use Rattle.fragment_ops.specs.declared.cell.Cell.{Cell}
use Rattle.fragment_ops.specs.declared.place.Place.{Place}
use Rattle.fragment_ops.specs.declared.state.FragmentState.{FragmentState}
use Rattle.fragment_ops.specs.Blend.{alpha_of, blended, blended_at, byte_product, dest_factors, masked, part_blended, source_factors}
use Rattle.fragment_ops.specs.Cell.{Fragment, cell_after_clear, cell_after_put, cell_cleared, cell_written, clear_values, passes_alpha, passes_depth, passes_scissor}
use Rattle.fragment_ops.specs.Comparison.{compares}
use Rattle.fragment_ops.specs.State.{byte_of}
use Rattle.fragment_ops.specs.Rows.{Overwrites, Paints, cell_painted, cell_tested}
use Rattle.fragment_ops.specs.Laws.{BlendsAtEnds, ClearKeeps, FragmentKeeps, KeepsMasked}

-- a fact of a cell that is chosen by a test holds where it holds of both
either : (test : Bool) (one other : Cell) (Holds : Cell → Type 0) → Holds one → Holds other → Holds (cond test one other)
either true one other Holds h k = h
either false one other Holds h k = k

-- the same of a list of numbers
either_list : (test : Bool) (one other : List ℕ) (Holds : List ℕ → Type 0) → Holds one → Holds other → Holds (cond test one other)
either_list true one other Holds h k = h
either_list false one other Holds h k = k

masked_part : (mask : List Bool) (new old : List ℕ) (part : ℕ) → part < 4 → slice_index_or mask part false ≡ false → slice_index (masked mask new old) part ≡ slice_index old part
unfolding masked
masked_part mask new old zero inside off = ap (λ (on : Bool). cond on (slice_index new 0) (slice_index old 0)) off
masked_part mask new old (suc zero) inside off = ap (λ (on : Bool). cond on (slice_index new 1) (slice_index old 1)) off
masked_part mask new old (suc (suc zero)) inside off = ap (λ (on : Bool). cond on (slice_index new 2) (slice_index old 2)) off
masked_part mask new old (suc (suc (suc zero))) inside off = ap (λ (on : Bool). cond on (slice_index new 3) (slice_index old 3)) off
masked_part mask new old (suc (suc (suc (suc part)))) inside off = absurd (omega arith)

module _ (state : FragmentState) where
  all_kept : (old : Cell) → KeepsMasked state old old
  all_kept old = record { colour = λ part inside off. refl; depth = λ off. refl }

  written_keeps : (fragment : Fragment) (old : Cell) → KeepsMasked state old (cell_written state fragment old)
  unfolding cell_written
  written_keeps fragment old = record {
    colour = λ part inside off. masked_part state.colour_mask _ old.colour part inside off;
    depth = λ off. ap (λ (test : Bool). cond test fragment.depth old.depth) (and_right state.depth_on state.depth_mask off);
  }

  written_untested : (fragment : Fragment) (old : Cell) → state.depth_on ≡ false → (cell_written state fragment old).depth ≡ old.depth
  unfolding cell_written
  written_untested fragment old off = ap (λ (test : Bool). cond test fragment.depth old.depth) (and_left state.depth_on state.depth_mask off)

  put_holds : (place : Place) (fragment : Fragment) (old : Cell) (Holds : Cell → Type 0) → Holds (cell_written state fragment old) → Holds old → Holds (cell_after_put place state fragment old)
  unfolding cell_after_put
  put_holds place fragment old Holds written kept =
      either (passes_scissor state place) _ old Holds (
      either (passes_alpha state fragment) _ old Holds (either (passes_depth state fragment old) (cell_written state fragment old) old Holds written kept) kept
      ) kept

  put_outside : (place : Place) (fragment : Fragment) (old : Cell) → passes_scissor state place ≡ false → cell_after_put place state fragment old ≡ old
  unfolding cell_after_put
  put_outside place fragment old out =
      ap (λ (test : Bool). cond test (cond (passes_alpha state fragment) (cond (passes_depth state fragment old) (cell_written state fragment old) old) old) old) out

  pub fragment_keeps : (place : Place) (fragment : Fragment) (old : Cell) → FragmentKeeps state place fragment old
  fragment_keeps place fragment old = record {
    outside = put_outside place fragment old;
    masked = put_holds place fragment old (KeepsMasked state old) (written_keeps fragment old) (all_kept old);
    untested = λ off. put_holds place fragment old (λ (new : Cell). new.depth ≡ old.depth) (written_untested fragment old off) refl;
  }

  module _ (colour depth : Bool) where
    cleared_keeps : (old : Cell) → KeepsMasked state old (cell_cleared state colour depth old)
    unfolding cell_cleared
    cleared_keeps old = record {
      colour = λ part inside off. either_list colour _ old.colour (λ (l : List ℕ). slice_index l part ≡ slice_index old.colour part) (masked_part state.colour_mask _ old.colour part inside off) refl;
      depth = λ off. ap (λ (test : Bool). cond test (clear_values state).depth old.depth) (and_right depth state.depth_mask off);
    }

    clear_holds : (place : Place) (old : Cell) (Holds : Cell → Type 0) → Holds (cell_cleared state colour depth old) → Holds old → Holds (cell_after_clear place state colour depth old)
    unfolding cell_after_clear
    clear_holds place old Holds cleared kept = either (passes_scissor state place) (cell_cleared state colour depth old) old Holds cleared kept

    clear_outside : (place : Place) (old : Cell) → passes_scissor state place ≡ false → cell_after_clear place state colour depth old ≡ old
    unfolding cell_after_clear
    clear_outside place old out = ap (λ (test : Bool). cond test (cell_cleared state colour depth old) old) out

    other_colour : (old : Cell) → colour ≡ false → (cell_cleared state colour depth old).colour ≡ old.colour
    unfolding cell_cleared
    other_colour old off = ap (λ (test : Bool). cond test (masked state.colour_mask (clear_values state).colour old.colour) old.colour) off

    other_depth : (old : Cell) → depth ≡ false → (cell_cleared state colour depth old).depth ≡ old.depth
    unfolding cell_cleared
    other_depth old off = ap (λ (test : Bool). cond test (clear_values state).depth old.depth) (and_left depth state.depth_mask off)

    pub clear_keeps : (place : Place) (old : Cell) → ClearKeeps state place colour depth old
    clear_keeps place old = record {
      outside = clear_outside place old;
      masked = clear_holds place old (KeepsMasked state old) (cleared_keeps old) (all_kept old);
      other_colour = λ off. clear_holds place old (λ (new : Cell). new.colour ≡ old.colour) (other_colour old off) refl;
      other_depth = λ off. clear_holds place old (λ (new : Cell). new.depth ≡ old.depth) (other_depth old off) refl;
    }

-- the product of a byte and 1, and of a byte and 0
product_one : (byte : ℕ) → byte_product byte 255 ≡ byte
unfolding byte_product
product_one byte = div-mul-add byte 255 127 (lit< tt)

product_none : (byte : ℕ) → byte_product byte 0 ≡ 0
unfolding byte_product
product_none byte =
    let none : byte * 0 ≡ 0 = omega arith in
    ap (λ (n : ℕ). (n + 127) / 255) none

least_byte : (byte : ℕ) → byte ≤ 255 → min 255 byte ≡ byte
least_byte byte most = grind arith

source_alone : (source dest : ℕ) → source ≤ 255 → part_blended source 255 dest 0 ≡ source
unfolding part_blended
source_alone source dest most =
    let sum : byte_product source 255 + byte_product dest 0 ≡ source = omega (arith, product_one source, product_none dest) in
    ap (min 255) sum ∙ least_byte source most

dest_alone : (source dest : ℕ) → dest ≤ 255 → part_blended source 0 dest 255 ≡ dest
unfolding part_blended
dest_alone source dest most =
    let sum : byte_product source 0 + byte_product dest 255 ≡ dest = omega (arith, product_none source, product_one dest) in
    ap (min 255) sum ∙ least_byte dest most

pub blends_at_ends : (source dest : List ℕ) (part : ℕ) → part < 4 → slice_index source part ≤ 255 → slice_index dest part ≤ 255 → BlendsAtEnds source dest part
unfolding blended blended_at source_factors dest_factors
blends_at_ends source dest zero inside s d = record { source_alone = source_alone (slice_index source 0) (slice_index dest 0) s; dest_alone = dest_alone (slice_index source 0) (slice_index dest 0) d }
blends_at_ends source dest (suc zero) inside s d =
    record { source_alone = source_alone (slice_index source 1) (slice_index dest 1) s; dest_alone = dest_alone (slice_index source 1) (slice_index dest 1) d }
blends_at_ends source dest (suc (suc zero)) inside s d =
    record { source_alone = source_alone (slice_index source 2) (slice_index dest 2) s; dest_alone = dest_alone (slice_index source 2) (slice_index dest 2) d }
blends_at_ends source dest (suc (suc (suc zero))) inside s d =
    record { source_alone = source_alone (slice_index source 3) (slice_index dest 3) s; dest_alone = dest_alone (slice_index source 3) (slice_index dest 3) d }
blends_at_ends source dest (suc (suc (suc (suc part)))) inside s d = absurd (omega arith)

-- a cleared cell that has nothing of what it was
pub cell_cleared-overwritten : (state : FragmentState) (colour depth : Bool) (old : Cell) → Overwrites state colour depth
    → clear_values state ≡ cell_cleared state colour depth old
unfolding cell_cleared masked
cell_cleared-overwritten state colour depth old all =
    let values = clear_values state in
    let colour_is : cond colour (masked state.colour_mask values.colour old.colour) old.colour ≡ values.colour =
    ap (λ (test : Bool). cond test (masked state.colour_mask values.colour old.colour) old.colour) all.asks_colour
    ∙ ap (λ (mask : List Bool). masked mask values.colour old.colour) all.colour_mask in
    let depth_is : cond (depth && state.depth_mask) values.depth old.depth ≡ values.depth =
    ap (λ (test : Bool). cond (test && state.depth_mask) values.depth old.depth) all.asks_depth ∙ ap (λ (test : Bool). cond test values.depth old.depth) all.depth_mask in
    sym (
    ap (λ (l : List ℕ). record { colour = l; depth = cond (depth && state.depth_mask) values.depth old.depth }) colour_is
    ∙ ap (λ (d : ℕ). record { colour = values.colour; depth = d }) depth_is
    )

-- a list of four numbers
four_parts : (colour : List ℕ) → length colour ≡ 4 → colour ≡ slice_index colour 0 ∷ slice_index colour 1 ∷ slice_index colour 2 ∷ slice_index colour 3 ∷ []
four_parts [] four = absurd (omega arith)
four_parts (a ∷ []) four = absurd (omega arith)
four_parts (a ∷ b ∷ []) four = absurd (omega arith)
four_parts (a ∷ b ∷ c ∷ []) four = absurd (omega arith)
four_parts (a ∷ b ∷ c ∷ d ∷ []) four = refl
four_parts (a ∷ b ∷ c ∷ d ∷ e ∷ more) four = absurd (omega arith)

-- a colour that is written where no mask is off
pub masked-all_on : (mask : List Bool) (new old : List ℕ) → length new ≡ 4 → mask ≡ true ∷ true ∷ true ∷ true ∷ [] → new ≡ masked mask new old
unfolding masked
masked-all_on mask new old four on = four_parts new four ∙ sym (ap (λ (m : List Bool). masked m new old) on)

-- a fragment passes tests that are disabled
untested : (alpha_on depth_on alpha depth : Bool) (new old : Cell) → alpha_on ≡ false → depth_on ≡ false
    → new ≡ cond (cond alpha_on alpha true) (cond (cond depth_on depth true) new old) old
untested true depth_on alpha depth new old no_alpha no_depth = cc
untested false true alpha depth new old no_alpha no_depth = cc
untested false false alpha depth new old no_alpha no_depth = refl

module _ (state : FragmentState) (depth : ℕ) (colour : List ℕ) (old : Cell) (four : length colour ≡ 4) (all : Paints state) where
  abbrev painter : Fragment
  painter = record { depth = depth; colour = colour }

  colour_painted : (cell_written state painter old).colour ≡ colour
  unfolding cell_written
  colour_painted =
      ap (λ (on : Bool). masked state.colour_mask (cond on (blended state.source_factor state.dest_factor colour old.colour) colour) old.colour) all.unblended
      ∙ sym (masked-all_on state.colour_mask colour old.colour four all.colour_mask)

  written_painted : cell_painted colour old ≡ cell_written state painter old
  unfolding cell_painted cell_written
  written_painted =
      sym (
      ap (λ (l : List ℕ). record { colour = l; depth = (cell_written state painter old).depth }) colour_painted
      ∙ ap (λ (d : ℕ). record { colour = colour; depth = d }) (written_untested state painter old all.no_depth)
      )

  -- a fragment that gives a cell its colour alone
  pub cell_tested-painted : cell_painted colour old ≡ cell_tested state painter old
  unfolding cell_tested
  cell_tested-painted =
      written_painted
      ∙ untested state.alpha_on state.depth_on (compares state.alpha_func (alpha_of colour) (byte_of state.alpha_reference)) (compares state.depth_func depth old.depth)
      (cell_written state painter old) old all.untested all.no_depth
