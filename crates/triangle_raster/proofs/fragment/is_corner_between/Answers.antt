use Rattle.std.proofs.Common.{◌≡◌, neg_ℤ, pos, ◌-ℤ◌, to_z, of_z, w32, sym, ◌∙◌, arith, lit<}
use Rattle.std.proofs.lemmas.Int.{ints}
use Rattle.triangle_raster.proofs.Bounds.{kept_32}
use Rattle.triangle_raster.proofs.Fragments.{between_from_test, test_from_code}
use Rattle.triangle_raster.proofs.fragment.is_corner_between.Goals as goal

pub returns-clause-test : goal.returns-clause-test
returns-clause-test c =
    let negative : to_z w32 (of_z w32 (pos 0 -ℤ to_z w32 (of_z w32 c.args.w))) ≡ neg_ℤ c.args.w = omega (arith, ints) in
    c.all_of.ensures
    ∙ test_from_code c.args.z c.args.w (kept_32 c.requires.w (lit< tt)) negative (kept_32 c.requires.z (lit< tt)) (kept_32 c.requires.z (lit< tt)) (kept_32 c.requires.w (lit< tt))

pub returns-clause-between : goal.returns-clause-between
returns-clause-between c = λ t.
    let negative : to_z w32 (of_z w32 (pos 0 -ℤ to_z w32 (of_z w32 c.args.w))) ≡ neg_ℤ c.args.w = omega (arith, ints) in
    between_from_test c.args.z c.args.w
    (sym (c.all_of.ensures
    ∙ test_from_code c.args.z c.args.w (kept_32 c.requires.w (lit< tt)) negative (kept_32 c.requires.z (lit< tt)) (kept_32 c.requires.z (lit< tt)) (kept_32 c.requires.w (lit< tt))) ∙ t)
