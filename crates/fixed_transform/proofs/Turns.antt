-- The matrix of Rotatex where the axis has no length, and where it has some.
use Rattle.std.proofs.Common.{◌≡◌, ℕ, zero, suc, ◌<◌, ℤ, ap, refl, ◌∙◌, arith}
use Rattle.fixed_transform.specs.Matrix.{identity}
use Rattle.fixed_transform.specs.Angle.{angle_of, cosine, sine}
use Rattle.fixed_transform.specs.Axis.{length_of, unit_part}
use Rattle.fixed_transform.specs.Rotation.{rotation_of, turn_about, turn_of}

module _ (angle x y z : ℤ) where
  pub rotation_of-no_axis : length_of x y z ≡ 0 → rotation_of angle x y z ≡ identity
  unfolding rotation_of
  rotation_of-no_axis e = ap (λ (n : ℕ). turn_of n angle x y z) e

  turn_of-some : (n : ℕ) → 0 < n → turn_about (unit_part x n) (unit_part y n) (unit_part z n) (sine (angle_of angle)) (cosine (angle_of angle)) ≡ turn_of n angle x y z
  turn_of-some zero h = absurd (omega arith)
  turn_of-some (suc n) h = refl

  pub rotation_of-axis : (n : ℕ) → n ≡ length_of x y z → 0 < n →
      turn_about (unit_part x n) (unit_part y n) (unit_part z n) (sine (angle_of angle)) (cosine (angle_of angle)) ≡ rotation_of angle x y z
  unfolding rotation_of
  rotation_of-axis n e some = turn_of-some n some ∙ ap (λ (m : ℕ). turn_of m angle x y z) e
