-- The kinds of arguments as ranges of integers; own.
use Rattle.std.specs.Prelude.{ℤ, pos, ◌≤ℤ◌, List, [], ◌∷◌, FitsSigned}
use Rattle.std.specs.Int.{FitsUnsigned, w32}
use Rattle.gl_words.specs.declared.shape.ArgKind.{ArgKind}
use Rattle.gl_words.specs.declared.shape.ArgKind.TheVariants.{Enum, Unsigned, Int, Fixed, Bool, Pointer}

-- an integer is one that an argument of this kind may be; own
abbrev pub IsOfKind : ArgKind → ℤ → Type 0
IsOfKind Enum z = FitsUnsigned w32 z
IsOfKind Unsigned z = FitsUnsigned w32 z
IsOfKind Int z = FitsSigned w32 z
IsOfKind Fixed z = FitsSigned w32 z
IsOfKind Bool z = (pos 0 ≤ℤ z) × (z ≤ℤ pos 1)
IsOfKind Pointer z = FitsUnsigned w32 z

-- there are as many integers as kinds, and each is of its kind; own
abbrev pub AreOfKinds : List ArgKind → List ℤ → Type 0
AreOfKinds [] [] = Unit {0}
AreOfKinds (kind ∷ kinds) (z ∷ zs) = IsOfKind kind z × AreOfKinds kinds zs
AreOfKinds [] (z ∷ zs) = ⊥
AreOfKinds (kind ∷ kinds) [] = ⊥
