-- What the state of fragment operations may hold, and fixed numbers as bytes and depths. No operation stands here.
use Rattle.std.specs.Prelude.{◌≡◌, ℕ, ◌+◌, ◌*◌, ◌/◌, ◌==◌, ℤ, pos, negsuc, ◌≤ℤ◌, true, List, [], ◌∷◌, slice_index_or}
use Rattle.std.specs.List.{list_any}
use Rattle.fragment_ops.specs.declared.state.FragmentState.{FragmentState}

-- the comparisons: NEVER, LESS, EQUAL, LEQUAL, GREATER, NOTEQUAL, GEQUAL, ALWAYS; sections 4.1.4 and 4.1.6
abbrev pub comparisons : List ℕ
comparisons = 0x200 ∷ 0x201 ∷ 0x202 ∷ 0x203 ∷ 0x204 ∷ 0x205 ∷ 0x206 ∷ 0x207 ∷ []

-- the factors of a source: ZERO, ONE, SRC_ALPHA, ONE_MINUS_SRC_ALPHA, DST_ALPHA, ONE_MINUS_DST_ALPHA, DST_COLOR, ONE_MINUS_DST_COLOR, SRC_ALPHA_SATURATE; section 4.1.7
abbrev pub sources : List ℕ
sources = 0 ∷ 1 ∷ 0x302 ∷ 0x303 ∷ 0x304 ∷ 0x305 ∷ 0x306 ∷ 0x307 ∷ 0x308 ∷ []

-- the factors of a destination: ZERO, ONE, SRC_COLOR, ONE_MINUS_SRC_COLOR, SRC_ALPHA, ONE_MINUS_SRC_ALPHA, DST_ALPHA, ONE_MINUS_DST_ALPHA; section 4.1.7
abbrev pub destinations : List ℕ
destinations = 0 ∷ 1 ∷ 0x300 ∷ 0x301 ∷ 0x302 ∷ 0x303 ∷ 0x304 ∷ 0x305 ∷ []

-- a number is one of a list; own
abbrev pub IsOneOf : List ℕ → ℕ → Type 0
IsOneOf numbers number = list_any (λ known. known == number) numbers ≡ true

-- a 16.16 fixed number of 0 to 1; section 2.3
pub record IsWithinOne (number : ℤ) : Type 0 where
  pub low : pos 0 ≤ℤ number
  pub high : number ≤ℤ pos 65536

-- a number of a list at a place; own
abbrev pub number_at : List ℤ → ℕ → ℤ
number_at numbers place = slice_index_or numbers place (pos 0)

-- each part of a colour of fixed numbers is 0 to 1; own
pub record AreWithinOne (colour : List ℤ) : Type 0 where
  pub red : IsWithinOne (number_at colour 0)
  pub green : IsWithinOne (number_at colour 1)
  pub blue : IsWithinOne (number_at colour 2)
  pub alpha : IsWithinOne (number_at colour 3)

-- neither side of a rectangle of x, y, width and height is below 0; section 4.1.2
pub record IsRectangle (rectangle : List ℤ) : Type 0 where
  pub width : pos 0 ≤ℤ number_at rectangle 2
  pub height : pos 0 ≤ℤ number_at rectangle 3

-- what the state may hold: a scissor rectangle, comparisons and factors that are ones, and fixed numbers of 0 to 1; sections 4.1.2 to 4.2.3
pub record IsFragmentState (state : FragmentState) : Type 0 where
  pub scissor : IsRectangle state.scissor
  pub alpha_func : IsOneOf comparisons state.alpha_func
  pub alpha_reference : IsWithinOne state.alpha_reference
  pub depth_func : IsOneOf comparisons state.depth_func
  pub source_factor : IsOneOf sources state.source_factor
  pub dest_factor : IsOneOf destinations state.dest_factor
  pub clear_colour : AreWithinOne state.clear_colour
  pub clear_depth : IsWithinOne state.clear_depth

-- a fixed number of 0 to 1 as a byte, rounded; no such number is below 0; own
abbrev pub byte_of : ℤ → ℕ
byte_of (pos number) = (number * 255 + 32768) / 65536
byte_of (negsuc number) = 0

-- a fixed number of 0 to 1 as a depth of 16 bits, rounded down; no such number is below 0; own
abbrev pub depth_of : ℤ → ℕ
depth_of (pos number) = number * 65535 / 65536
depth_of (negsuc number) = 0
