-- What a call without an error has passed: each test of a list; of the projections, that the sides are apart and the planes before the eye.
use Rattle.std.proofs.Common.{◌≡◌, ℕ, ℤ, pos, ◌<ℤ◌, ◌≤ℤ◌, ◌≢◌, Bool, true, false, cond, eqb, ◌&&◌, ◌||◌, List, ◌∷◌, Some, None, refl, sym, arith}
use Rattle.std.specs.Ordering.{int_eq}
use Rattle.std.specs.Prelude.{Contains, int_le, int_lt}
use Rattle.std.proofs.lemmas.Bool.{and_parts, eqb-true}
use Rattle.std.proofs.lemmas.Bool.Decides.{Decides-int_eq}
use Rattle.std.proofs.lemmas.Int.{ints}
use Rattle.std.proofs.lemmas.Map.Views.{Contains-from_any}
use Rattle.gl_words.specs.declared.call.Call.TheVariants.{Frustumx, Orthox}
use Rattle.gl_words.specs.declared.error.GlError.{GlError}
use Rattle.gl_tracked.specs.declared.tracked.Tracked.{Tracked}
use Rattle.gl_tracked.specs.Fault.{fault_of, differ, first_failed, is_among, is_box, is_extent, is_frustum, is_stride, pointer_fault, size_is_among}

-- a test that made no error was passed
pub passed : {E : Type 0} (test : Bool) (error : E) → cond test None (Some error) ≡ None → test ≡ true
passed true error h = refl
passed false error h = absurd (cc)

-- where no test of a list failed, the first was passed, and none of the others failed
pub first_passed : (test : Bool) (error : GlError) (tests : List (Bool × GlError)) → first_failed ((test, error) ∷ tests) ≡ None → (test ≡ true) × (first_failed tests ≡ None)
unfolding first_failed
first_passed true error tests h = (refl, h)
first_passed false error tests h = absurd (cc)

-- a number that is among others is one of them
pub among-contains : (numbers : List ℕ) (number : ℕ) → is_among numbers number ≡ true → Contains numbers number
unfolding is_among
among-contains numbers number h = Contains-from_any {eq = λ q known. eqb known q} (λ x y same. sym (eqb-true y x same)) number numbers h

-- a signed number that is among others is one of them
pub size_among-contains : (numbers : List ℤ) (number : ℤ) → size_is_among numbers number ≡ true → Contains numbers number
unfolding size_is_among
size_among-contains numbers number h = Contains-from_any {eq = λ q known. int_eq known q} (λ x y same. sym ((Decides-int_eq y x).0 same)) number numbers h

-- what a pointer call without an error has passed; section 2.8
pub record HasPlace (knows_size knows_type : Bool) (stride : ℤ) : Type 0 where
  pub sized : knows_size ≡ true
  pub typed : knows_type ≡ true
  pub forward : pos 0 ≤ℤ stride

at_least : (a b : ℤ) → int_le a b ≡ true → a ≤ℤ b
at_least a b h = grind (arith, ints)

-- neither side of an extent is below zero
pub extent_has_sides : (width height : ℤ) → is_extent width height ≡ true → (pos 0 ≤ℤ width) × (pos 0 ≤ℤ height)
unfolding is_extent
extent_has_sides width height h =
    let parts = and_parts (int_le (pos 0) width) (int_le (pos 0) height) h in
    (at_least (pos 0) width (parts.0), at_least (pos 0) height (parts.1))

pub pointer_has_place : (knows_size knows_type : Bool) (stride : ℤ) → pointer_fault knows_size knows_type stride ≡ None → HasPlace knows_size knows_type stride
unfolding pointer_fault is_stride
pointer_has_place knows_size knows_type stride h =
    let sized = first_passed knows_size _ _ h in
    let typed = first_passed knows_type _ _ (sized.1) in
    let forward = first_passed (int_le (pos 0) stride) _ _ (typed.1) in
    record { sized = sized.0; typed = typed.0; forward = at_least (pos 0) stride (forward.0) }

below : (a b : ℤ) → int_lt a b ≡ true → a <ℤ b
below a b h = grind (arith, ints)

apart : (a b : ℤ) → (int_lt a b || int_lt b a) ≡ true → a ≢ b
apart a b h = grind (arith, ints)

differ-apart : (a b : ℤ) → differ a b ≡ true → a ≢ b
unfolding differ
differ-apart a b h = apart a b h

-- no two sides that face each other are in one plane; section 2.10.2
pub record AreApart (left right bottom top near far : ℤ) : Type 0 where
  pub across : left ≢ right
  pub upward : bottom ≢ top
  pub deep : near ≢ far

-- both planes are before the eye, and the sides are apart; section 2.10.2
pub record AreOfFrustum (left right bottom top near far : ℤ) : Type 0 where
  pub near_before : pos 0 <ℤ near
  pub far_before : pos 0 <ℤ far
  pub sides : AreApart left right bottom top near far

module _ (left right bottom top near far : ℤ) where
  is_box-apart : is_box left right bottom top near far ≡ true → AreApart left right bottom top near far
  unfolding is_box
  is_box-apart h =
      let parts = and_parts (differ left right && differ bottom top) (differ near far) h in
      let flat = and_parts (differ left right) (differ bottom top) (parts.0) in
      record { across = differ-apart left right (flat.0); upward = differ-apart bottom top (flat.1); deep = differ-apart near far (parts.1) }

  is_frustum-before : is_frustum left right bottom top near far ≡ true → AreOfFrustum left right bottom top near far
  unfolding is_frustum
  is_frustum-before h =
      let parts = and_parts (int_lt (pos 0) near && int_lt (pos 0) far) (is_box left right bottom top near far) h in
      let planes = and_parts (int_lt (pos 0) near) (int_lt (pos 0) far) (parts.0) in
      record { near_before = below (pos 0) near (planes.0); far_before = below (pos 0) far (planes.1); sides = is_box-apart (parts.1) }

  -- where no error is found, Orthox has a box
  pub ortho_has_box : (tracked : Tracked) → fault_of tracked (Orthox left right bottom top near far) ≡ None → AreApart left right bottom top near far
  unfolding fault_of
  ortho_has_box tracked h = is_box-apart (passed _ _ h)

  -- where no error is found, Frustumx has a frustum
  pub frustum_has_frustum : (tracked : Tracked) → fault_of tracked (Frustumx left right bottom top near far) ≡ None → AreOfFrustum left right bottom top near far
  unfolding fault_of
  frustum_has_frustum tracked h = is_frustum-before (passed _ _ h)
