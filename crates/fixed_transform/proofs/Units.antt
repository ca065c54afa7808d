-- What is left of a sum of four products where three of them are with zero, and what one is by the fixed number 1.
use Rattle.std.proofs.Common.{◌≡◌, sym, ℤ, pos, negsuc, ◌+ℤ◌, ◌*ℤ◌, SFits, w32, ap, ◌∙◌, arith}
use Rattle.std.proofs.Math.Nat.{min-eq_left}
use Rattle.std.proofs.lemmas.Int.{ints}
use Rattle.fixed_transform.specs.Fixed.{clamp_i32, fx}
use Rattle.fixed_transform.proofs.Splits.{quotient_of_parts}

clamp_i32-fits : (z : ℤ) → SFits w32 z → clamp_i32 z ≡ z
clamp_i32-fits (pos n) h =
    let bound = h.sfits in
    ap pos (min-eq_left (omega arith))
clamp_i32-fits (negsuc n) h =
    let bound = h.sfits in
    ap negsuc (min-eq_left (omega arith))

fx-of_one : (z : ℤ) → SFits w32 z → fx (z *ℤ pos 65536) ≡ z
unfolding fx
fx-of_one z h =
    let split = quotient_of_parts (z *ℤ pos 65536) z 0 (omega (arith, ints)) in
    ap clamp_i32 (split ∙ omega (arith, ints)) ∙ clamp_i32-fits z h

module _ (a b c d by : ℤ) where
  pub first-alone : fx (a *ℤ by) ≡ fx (a *ℤ by +ℤ b *ℤ pos 0 +ℤ c *ℤ pos 0 +ℤ d *ℤ pos 0)
  first-alone = ap fx (omega (arith, ints))

  pub second-alone : fx (b *ℤ by) ≡ fx (a *ℤ pos 0 +ℤ b *ℤ by +ℤ c *ℤ pos 0 +ℤ d *ℤ pos 0)
  second-alone = ap fx (omega (arith, ints))

  pub third-alone : fx (c *ℤ by) ≡ fx (a *ℤ pos 0 +ℤ b *ℤ pos 0 +ℤ c *ℤ by +ℤ d *ℤ pos 0)
  third-alone = ap fx (omega (arith, ints))

module _ (a b c d : ℤ) where
  pub first-kept : SFits w32 a → a ≡ fx (a *ℤ pos 65536 +ℤ b *ℤ pos 0 +ℤ c *ℤ pos 0 +ℤ d *ℤ pos 0)
  first-kept h = sym (fx-of_one a h) ∙ ap fx (omega (arith, ints))

  pub second-kept : SFits w32 b → b ≡ fx (a *ℤ pos 0 +ℤ b *ℤ pos 65536 +ℤ c *ℤ pos 0 +ℤ d *ℤ pos 0)
  second-kept h = sym (fx-of_one b h) ∙ ap fx (omega (arith, ints))

  pub third-kept : SFits w32 c → c ≡ fx (a *ℤ pos 0 +ℤ b *ℤ pos 0 +ℤ c *ℤ pos 65536 +ℤ d *ℤ pos 0)
  third-kept h = sym (fx-of_one c h) ∙ ap fx (omega (arith, ints))

  pub fourth-kept : SFits w32 d → d ≡ fx (a *ℤ pos 0 +ℤ b *ℤ pos 0 +ℤ c *ℤ pos 0 +ℤ d *ℤ pos 65536)
  fourth-kept h = sym (fx-of_one d h) ∙ ap fx (omega (arith, ints))
