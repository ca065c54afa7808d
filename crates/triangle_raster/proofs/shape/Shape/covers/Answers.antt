use Rattle.std.proofs.Common.{◌≡◌, Bool, false, ℤ, pos, ◌≤ℤ◌, ap, sym, subst, ◌∙◌, lit<}
use Rattle.triangle_raster.specs.Pixel.{above_or}
use Rattle.triangle_raster.proofs.Bounds.{kept_128}
use Rattle.triangle_raster.proofs.Shapes.{covers_as_seen}
use Rattle.triangle_raster.proofs.Fragments.{all_true}
use Rattle.triangle_raster.proofs.shape.Shape.covers.Goals as goal

-- a test of a number that was passed is the test of the number
test_kept : (x y : ℤ) {a : Bool} {z k : ℤ} → a ≡ above_or k (above_or x (above_or y false)) → k ≡ z → a ≡ above_or z (above_or x (above_or y false))
test_kept x y e h = e ∙ ap (λ (v : ℤ). above_or v (above_or x (above_or y false))) h

pub returns-clause-covered : goal.returns-clause-covered
returns-clause-covered c = λ x y e.
    c.all_of.ensures
    ∙ covers_as_seen c.args.self.now c.requires.shape x y c.args.sums.now e c.passes.result c.passes-2.result c.passes-3.result
    (test_kept c.args.self.now.one.x c.args.self.now.one.y c.passes.ensures.test (kept_128 c.requires.near.near_one (lit< tt)))
    (test_kept c.args.self.now.two.x c.args.self.now.two.y c.passes-2.ensures.test (kept_128 c.requires.near.near_two (lit< tt)))
    (test_kept c.args.self.now.three.x c.args.self.now.three.y c.passes-3.ensures.test (kept_128 c.requires.near.near_three (lit< tt)))

pub returns-clause-not_negative : goal.returns-clause-not_negative
returns-clause-not_negative c = λ t.
    let all = all_true c.passes.result c.passes-2.result c.passes-3.result (sym c.all_of.ensures ∙ t) in
    record {
      from_one = subst (λ (z : ℤ). pos 0 ≤ℤ z) (kept_128 c.requires.near.near_one (lit< tt)) (c.passes.ensures.not_negative all.0);
      from_two = subst (λ (z : ℤ). pos 0 ≤ℤ z) (kept_128 c.requires.near.near_two (lit< tt)) (c.passes-2.ensures.not_negative all.1);
      from_three = subst (λ (z : ℤ). pos 0 ≤ℤ z) (kept_128 c.requires.near.near_three (lit< tt)) (c.passes-3.ensures.not_negative all.2);
    }
