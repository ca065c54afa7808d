-- Numbers that are passed to a function and put into an array, and the environments at the start.
use Rattle.std.specs.Prelude.{All}
use Rattle.std.proofs.Common.{◌≡◌, ℕ, ◌≤◌, ℤ, pos, [], ◌∷◌, refl, ap, ◌∙◌, arith, w32, to_z, of_z, SFits}
use Rattle.std.proofs.lemmas.Int.{ints, to_z-of_z}
use Rattle.std.proofs.lemmas.List.Elements.{All-cons, All-nil}
use Rattle.fragment_ops.specs.State.{AreWithinOne, IsOneOf, IsWithinOne}
use Rattle.gl_state.specs.Settings.{mode_numbers, no_colour}

-- what a function gives for a number that it was passed
pub given : (f : ℤ → ℤ) (x r : ℤ) → SFits w32 x → SFits w32 r → r ≡ f (to_z w32 (of_z w32 x)) → to_z w32 (of_z w32 r) ≡ f x
given f x r fits_x fits_r is = to_z-of_z w32 r fits_r ∙ is ∙ ap f (to_z-of_z w32 x fits_x)

within : (number : ℕ) → number ≤ 65536 → IsWithinOne (pos number)
within number few = record { low = omega (arith, ints); high = omega (arith, ints, few) }

nothing_within : AreWithinOne no_colour
nothing_within = record { red = within 0 (omega arith); green = within 0 (omega arith); blue = within 0 (omega arith); alpha = within 0 (omega arith) }

-- the colours of both environments at the start are within their bounds
pub first_environments : All AreWithinOne (no_colour ∷ no_colour ∷ [])
first_environments = All-cons AreWithinOne no_colour (no_colour ∷ []) nothing_within (All-cons AreWithinOne no_colour [] nothing_within (All-nil AreWithinOne))

-- and their modes are such as calls accept
pub first_modes : All (IsOneOf mode_numbers) (0x2100 ∷ 0x2100 ∷ [])
first_modes = All-cons (IsOneOf mode_numbers) 0x2100 (0x2100 ∷ []) refl (All-cons (IsOneOf mode_numbers) 0x2100 [] refl (All-nil (IsOneOf mode_numbers)))
