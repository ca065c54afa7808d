-- Colours of vertices are 0 to 1, and so are those of fragments among them.
use Rattle.std.proofs.Common.{◌≡◌, ℕ, ℤ, pos, List, All, length, get_or, sym, subst, inl, inr, arith}
use Rattle.std.specs.Prelude.{int_lt}
use Rattle.std.proofs.lemmas.Bool.{cases_lt, cond_both}
use Rattle.std.proofs.lemmas.Int.{ints}
use Rattle.std.proofs.lemmas.List.{get_or_past}
use Rattle.gl_memory.specs.Segment.{Segment}
use Rattle.triangle_raster.specs.declared.fragment.Fragment.{Fragment}
use Rattle.triangle_raster.specs.declared.vertex.Vertex.{Vertex}
use Rattle.triangle_raster.specs.declared.vertex.View.{View}
use Rattle.triangle_raster.specs.declared.vertex.Area.{Area}
use Rattle.triangle_raster.specs.Ranges.{HasValuesAmong}
use Rattle.triangle_raster.specs.Row.{fragments_of, triangle_of}
use Rattle.triangle_raster.specs.Vertex.{corner}
use Rattle.triangle_raster.proofs.Ranges.{values_lie_among_corners}
use Rattle.fragment_ops.specs.State.{AreWithinOne, IsWithinOne, number_at}
use Rattle.vertex_stage.specs.declared.stage.Stage.{Stage}
use Rattle.vertex_stage.specs.Vertex.{clamped_shade, colour_of, corners_of, values_of, vertex_of, with_colour_from}
use Rattle.triangle_draw.specs.Fragments.{HaveShades}

-- ---- fragments
module _ (corners : List Vertex) (have : HaveShades corners) (f : Fragment) (among : HasValuesAmong corners f) where
  shade_among : (k : ℕ) → IsWithinOne (number_at (corner corners 0).values k) → IsWithinOne (number_at (corner corners 1).values k) → IsWithinOne (number_at (corner corners 2).values k)
      → IsWithinOne (number_at f.values k)
  shade_among k one two three =
      elim (cases_lt k (length f.values)) [
        | inl below ↦
            let range = among k below (pos 0) (pos 65536) (one.low, one.high) (two.low, two.high) (three.low, three.high) in
            record { low = range.0; high = range.1 }
        | inr past ↦
            let zero_is : pos 0 ≡ get_or f.values k (pos 0) = sym (get_or_past f.values k (pos 0) past) in
            subst (λ (z : ℤ). IsWithinOne z) zero_is (record { low = omega (arith, ints); high = omega (arith, ints) })
      ]

  shades_among : AreWithinOne f.values
  shades_among = record {
    red = shade_among 0 have.one.red have.two.red have.three.red;
    green = shade_among 1 have.one.green have.two.green have.three.green;
    blue = shade_among 2 have.one.blue have.two.blue have.three.blue;
    alpha = shade_among 3 have.one.alpha have.two.alpha have.three.alpha;
  }

-- the fragments of a row have colours of 0 to 1 where the corners have
pub shades_of_row : (corners : List Vertex) (view : View) (area : Area) (y : ℤ) → HaveShades corners → All (λ (f : Fragment). AreWithinOne f.values) (fragments_of (triangle_of corners view area) y)
shades_of_row corners view area y have = λ k d below. shades_among corners have (get_or (fragments_of (triangle_of corners view area) y) k d) (values_lie_among_corners (triangle_of corners view area) y k d below)

-- ---- corners
shade_clamped : (z : ℤ) → IsWithinOne (clamped_shade z)
unfolding clamped_shade
shade_clamped z =
    cond_both (int_lt z (pos 0)) _ _ IsWithinOne (λ _. record { low = omega (arith, ints); high = omega (arith, ints) }) (λ from.
    cond_both (int_lt (pos 65536) z) _ _ IsWithinOne (λ _. record { low = omega (arith, ints); high = omega (arith, ints) }) (λ to.
    record { low = omega (arith, ints); high = omega (arith, ints) }))

module _ (stage : Stage) (memories : ℕ → List Segment) where
  vertex_shaded : (place : ℕ) → AreWithinOne (vertex_of stage memories place).values
  unfolding vertex_of values_of colour_of
  vertex_shaded place = record { red = shade_clamped _; green = shade_clamped _; blue = shade_clamped _; alpha = shade_clamped _ }

  flat_shaded : (third place : ℕ) → AreWithinOne (with_colour_from (vertex_of stage memories third) (vertex_of stage memories place)).values
  unfolding with_colour_from vertex_of values_of colour_of
  flat_shaded third place = record { red = shade_clamped _; green = shade_clamped _; blue = shade_clamped _; alpha = shade_clamped _ }

  -- the corners of a triangle have colours of 0 to 1
  pub corners_shaded : (first second third : ℕ) → HaveShades (corners_of stage memories first second third)
  unfolding corners_of
  corners_shaded first second third =
      cond_both stage.is_smooth _ _ HaveShades
      (λ _. record { one = vertex_shaded first; two = vertex_shaded second; three = vertex_shaded third })
      (λ _. record { one = flat_shaded third first; two = flat_shaded third second; three = vertex_shaded third })
