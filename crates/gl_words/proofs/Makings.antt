-- Integers and the values that a call holds for them: what is read of integers of the right kinds, and that values are read again from the integers that they are.
use Rattle.std.proofs.Common.{◌≡◌, ℕ, zero, suc, ℤ, pos, negsuc, Bool, true, false, cond, List, [], ◌∷◌, length, drop, map, ◌<◌, ◌^◌, ◌%◌, ◌-◌, refl, ap, ◌∙◌, arith, Some, Option, slice_index_or, to_z, of_z}
use Rattle.std.specs.Prelude.{unwrap_or, is_some, FitsSigned}
use Rattle.std.specs.Int.{FitsUnsigned, w32}
use Rattle.std.proofs.lemmas.Bool.Decides.{nat_tests}
use Rattle.std.proofs.lemmas.Int.{ints, to_z-of_z, of_z-to_z}
use Rattle.gl_words.specs.Kind.{IsOfKind, AreOfKinds}
use Rattle.gl_words.specs.Making.{unsigned_of, signed_of, truth_of, is_of_kind, fits, low_bits, Value, Values, truth_number, integer_of, integers, signed_at, unsigned_at, truth_at, value_at, values_at}
use Rattle.gl_words.specs.declared.shape.ArgKind.{ArgKind}
use Rattle.gl_words.specs.declared.shape.ArgKind.TheVariants.{Enum, Unsigned, Int, Fixed, Bool as Truth, Pointer}

-- ---- one argument

small : (n : ℕ) → n < 2 ^ 32 → n % 2 ^ 32 ≡ n
small n h = omega arith

-- an integer in the range of its kind is its low 32 bits
unsigned_back : (z : ℤ) → FitsUnsigned w32 z → pos (low_bits z) ≡ z
unsigned_back (pos n) h = ap pos (small n (omega (arith, ints)))
unsigned_back (negsuc n) h = absurd (omega arith)

low_bits-is : (z : ℤ) → FitsSigned w32 z → low_bits z ≡ of_z w32 z
low_bits-is (pos n) h = small n (omega (arith, ints))
low_bits-is (negsuc n) h = ap (λ (m : ℕ). 2 ^ 32 - suc m) (small n (omega (arith, ints)))

signed_back : (z : ℤ) → FitsSigned w32 z → to_z w32 (low_bits z) ≡ z
signed_back z h = ap (to_z w32) (low_bits-is z h) ∙ to_z-of_z w32 z h

unsigned_fits : (z : ℤ) → is_some (unsigned_of z) ≡ true → FitsUnsigned w32 z
unsigned_fits (pos n) h = grind (arith, nat_tests)
unsigned_fits (negsuc n) h = absurd (cc)

signed_fits : (z : ℤ) → is_some (signed_of z) ≡ true → FitsSigned w32 z
signed_fits (pos n) h = grind (arith, nat_tests)
signed_fits (negsuc n) h = grind (arith, nat_tests)

unsigned_is : (z : ℤ) → is_some (unsigned_of z) ≡ true → (pos (low_bits z) ≡ z) × FitsUnsigned w32 z
unsigned_is z h = let fits = unsigned_fits z h in (unsigned_back z fits, fits)

signed_is : (z : ℤ) → is_some (signed_of z) ≡ true → (to_z w32 (low_bits z) ≡ z) × FitsSigned w32 z
signed_is z h = let fits = signed_fits z h in (signed_back z fits, fits)

truth_is : (z : ℤ) → is_some (truth_of z) ≡ true → (truth_number (unwrap_or (truth_of z) false) ≡ z) × IsOfKind Truth z
truth_is (pos zero) h = (refl, (omega arith, omega arith))
truth_is (pos (suc zero)) h = (refl, (omega arith, omega arith))
truth_is (pos (suc (suc n))) h = absurd (grind (arith, nat_tests))
truth_is (negsuc n) h = absurd (cc)

-- what a call holds for an integer
abbrev pub value_of : (kind : ArgKind) → ℤ → Value kind
value_of Enum z = low_bits z
value_of Unsigned z = low_bits z
value_of Int z = to_z w32 (low_bits z)
value_of Fixed z = to_z w32 (low_bits z)
value_of Truth z = unwrap_or (truth_of z) false
value_of Pointer z = low_bits z

-- an integer of a kind is in range, and is the value that is held for it
value_is : (kind : ArgKind) (z : ℤ) → is_of_kind kind z ≡ true → (integer_of kind (value_of kind z) ≡ z) × IsOfKind kind z
value_is Enum z h = unsigned_is z h
value_is Unsigned z h = unsigned_is z h
value_is Int z h = signed_is z h
value_is Fixed z h = signed_is z h
value_is Truth z h = truth_is z h
value_is Pointer z h = unsigned_is z h

unsigned_again : (n : ℕ) → FitsUnsigned w32 (pos n) → low_bits (pos n) ≡ n
unsigned_again n h = small n (omega (arith, ints))

signed_again : (z : ℤ) → FitsSigned w32 z → signed_of z ≡ Some z
signed_again (pos n) h = grind (arith, nat_tests)
signed_again (negsuc n) h = grind (arith, nat_tests)

truth_again : (b : Bool) → unwrap_or (truth_of (truth_number b)) false ≡ b
truth_again false = refl
truth_again true = refl

-- a value in range is held for the integer that it is
value_again : (kind : ArgKind) (value : Value kind) → IsOfKind kind (integer_of kind value) → value_of kind (integer_of kind value) ≡ value
value_again Enum value h = unsigned_again value h
value_again Unsigned value h = unsigned_again value h
value_again Int value h = signed_back value h
value_again Fixed value h = signed_back value h
value_again Truth value h = truth_again value
value_again Pointer value h = unsigned_again value h

unsigned_passes : (z : ℤ) → FitsUnsigned w32 z → is_some (unsigned_of z) ≡ true
unsigned_passes (pos n) h = grind (arith, nat_tests)
unsigned_passes (negsuc n) h = absurd (omega arith)

truth_passes : (z : ℤ) → IsOfKind Truth z → is_some (truth_of z) ≡ true
truth_passes (pos zero) h = refl
truth_passes (pos (suc zero)) h = refl
truth_passes (pos (suc (suc n))) h = absurd (grind (arith, nat_tests, h.1))
truth_passes (negsuc n) h = absurd (grind (arith, nat_tests, h.0))

-- an integer in range passes the test of its kind
kind_passes : (kind : ArgKind) (z : ℤ) → IsOfKind kind z → is_of_kind kind z ≡ true
kind_passes Enum z h = unsigned_passes z h
kind_passes Unsigned z h = unsigned_passes z h
kind_passes Int z h = ap (λ (o : Option ℤ). is_some o) (signed_again z h)
kind_passes Fixed z h = ap (λ (o : Option ℤ). is_some o) (signed_again z h)
kind_passes Truth z h = truth_passes z h
kind_passes Pointer z h = unsigned_passes z h

-- ---- arguments

value_at-is : (kind : ArgKind) (all : List ℤ) (at : ℕ) (z : ℤ) → slice_index_or all at (pos 0) ≡ z → value_at kind all at ≡ value_of kind z
unfolding signed_at unsigned_at truth_at
value_at-is Enum all at z h = ap (value_of Enum) h
value_at-is Unsigned all at z h = ap (value_of Unsigned) h
value_at-is Int all at z h = ap (value_of Int) h
value_at-is Fixed all at z h = ap (value_of Fixed) h
value_at-is Truth all at z h = ap (value_of Truth) h
value_at-is Pointer all at z h = ap (value_of Pointer) h

-- what stands first behind so many integers, and what stands behind it
first_behind : (all : List ℤ) (at : ℕ) (z : ℤ) (zs : List ℤ) → drop at all ≡ z ∷ zs → (slice_index_or all at (pos 0) ≡ z) × (drop (suc at) all ≡ zs)
first_behind [] zero z zs h = absurd (cc)
first_behind [] (suc at) z zs h = absurd (cc)
first_behind (x ∷ xs) zero z zs h = (cc, cc)
first_behind (x ∷ xs) (suc at) z zs h = first_behind xs at z zs h

-- a test that picks nothing where it fails, taken apart
both_true : {P : Type 0} (b other : Bool) → cond b other false ≡ true → (b ≡ true → other ≡ true → P) → P
both_true true other h then_this = then_this refl h
both_true false other h then_this = absurd (cc)

-- integers that fit are in range, and are the values that are read of them
pub fits-is : (kinds : List ArgKind) (all : List ℤ) (at : ℕ) (args : List ℤ) → drop at all ≡ args → fits kinds args ≡ true
    → (integers kinds (values_at kinds all at) ≡ args) × AreOfKinds kinds args
unfolding fits
fits-is [] all at [] h fit = (refl, tt)
fits-is [] all at (z ∷ zs) h fit = absurd (cc)
fits-is (kind ∷ kinds) all at [] h fit = absurd (cc)
fits-is (kind ∷ kinds) all at (z ∷ zs) h fit =
    both_true (is_of_kind kind z) (fits kinds zs) fit (λ first others.
    let behind = first_behind all at z zs h in
    let is = value_is kind z first in
    let rest = fits-is kinds all (suc at) zs (behind.1) others in (
      ap (λ (v : Value kind). integer_of kind v ∷ integers kinds (values_at kinds all (suc at))) (value_at-is kind all at z (behind.0))
          ∙ ap (λ (y : ℤ). y ∷ integers kinds (values_at kinds all (suc at))) (is.0) ∙ ap (λ (ys : List ℤ). z ∷ ys) (rest.0),
      (is.1, rest.1),
    ))

-- only as many integers as kinds fit
pub fits-length : (kinds : List ArgKind) (args : List ℤ) → fits kinds args ≡ true → length kinds ≡ length args
unfolding fits
fits-length [] [] h = refl
fits-length [] (z ∷ zs) h = absurd (cc)
fits-length (kind ∷ kinds) [] h = absurd (cc)
fits-length (kind ∷ kinds) (z ∷ zs) h = both_true (is_of_kind kind z) (fits kinds zs) h (λ first others. ap suc (fits-length kinds zs others))

-- integers in range fit
pub fits-again : (kinds : List ArgKind) (args : List ℤ) → AreOfKinds kinds args → fits kinds args ≡ true
unfolding fits
fits-again [] [] h = refl
fits-again [] (z ∷ zs) h = absurd h
fits-again (kind ∷ kinds) [] h = absurd h
fits-again (kind ∷ kinds) (z ∷ zs) h = rw (kind_passes kind z (h.0)) (fits-again kinds zs (h.1))

-- values in range are read of the integers that they are
pub values_at-again : (kinds : List ArgKind) (values : Values kinds) (all : List ℤ) (at : ℕ) → drop at all ≡ integers kinds values → AreOfKinds kinds (integers kinds values)
    → values_at kinds all at ≡ values
values_at-again [] values all at h fit = refl
values_at-again (kind ∷ kinds) values all at h fit =
    let behind = first_behind all at (integer_of kind (values.0)) (integers kinds (values.1)) h in
    let first = value_at-is kind all at (integer_of kind (values.0)) (behind.0) ∙ value_again kind (values.0) (fit.0) in
    let others = values_at-again kinds (values.1) all (suc at) (behind.1) (fit.1) in
    ap (λ (v : Value kind). (v, values_at kinds all (suc at))) first ∙ ap (λ (vs : Values kinds). (values.0, vs)) others

low_bits-below : (z : ℤ) → low_bits z < 2 ^ 32
low_bits-below (pos n) = omega arith
low_bits-below (negsuc n) = omega arith

-- a signed number is in range, so that 32 bits hold it
pub signed_at-held : (args : List ℤ) (at : ℕ) → to_z w32 (of_z w32 (signed_at args at)) ≡ signed_at args at
unfolding signed_at
signed_at-held args at = ap (to_z w32) (of_z-to_z w32 (low_bits (slice_index_or args at (pos 0))) (low_bits-below (slice_index_or args at (pos 0))))

-- integers by themselves are those that they are
pub map-itself : (zs : List ℤ) → map (λ z. z) zs ≡ zs
map-itself [] = refl
map-itself (z ∷ zs) = ap (λ (ys : List ℤ). z ∷ ys) (map-itself zs)

pub ruleset made = (signed_at-held)
