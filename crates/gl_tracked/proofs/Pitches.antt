-- From one row of an image to the next: what the code rounds up is the pitch, which is no more than a row and an alignment.
use Rattle.std.proofs.Common.{◌≡◌, ℕ, zero, suc, ◌+◌, ◌-◌, ◌*◌, ◌/◌, ◌<◌, ◌≤◌, refl, ap, arith}
use Rattle.std.proofs.Math.Nat.{div-mul-le_self}
use Rattle.gl_tracked.specs.Images.{pitch_of}

-- the pitch where there is an alignment
pub pitch_of-step : (alignment row step bytes : ℕ) → step ≡ alignment → bytes ≡ row → 0 < alignment → (bytes + (step - 1)) / step * step ≡ pitch_of alignment row
unfolding pitch_of
pitch_of-step zero row step bytes is_step is_row some = absurd (omega arith)
pitch_of-step (suc less) row step bytes is_step is_row some = rw (is_step, is_row) (ap (λ (n : ℕ). (row + n) / suc less * suc less) (omega arith))

-- the pitch where there is none
pub pitch_of-none : (alignment row bytes : ℕ) → bytes ≡ row → alignment ≤ 0 → bytes ≡ pitch_of alignment row
unfolding pitch_of
pitch_of-none zero row bytes is_row none = is_row
pitch_of-none (suc less) row bytes is_row none = absurd (omega arith)

-- it is no more than the two of them
pub rounded-few : (alignment row step bytes : ℕ) → step ≡ alignment → bytes ≡ row → 0 < alignment → (bytes + (step - 1)) / step * step ≤ row + alignment
rounded-few alignment row step bytes is_step is_row some =
    let whole = div-mul-le_self (bytes + (step - 1)) step in
    omega (arith, whole)
