use Rattle.std.proofs.Common.{◌∙◌, lit<}
use Rattle.triangle_raster.proofs.Bounds.{as_32, kept_32, kept_64}
use Rattle.triangle_raster.proofs.Carries.{whole_kept}
use Rattle.triangle_raster.proofs.Wholes.{divisor_few, divisor_is_kept, divisor_some, product_kept}
use Rattle.triangle_raster.proofs.steps.divisor_of.Goals as goal

pub returns-clause-some : goal.returns-clause-some
returns-clause-some c =
    let e = product_kept c.product.ensures.value (whole_kept c.requires.some c.requires.few) (kept_64 (as_32 c.requires.near (lit< tt)) (lit< tt) ∙ kept_32 c.requires.near (lit< tt)) in
    divisor_some c.args.whole c.args.w c.requires.some c.requires.few c.requires.positive c.requires.near
    (divisor_is_kept c.args.whole c.args.w c.requires.some c.requires.few c.requires.positive c.requires.near e)

pub returns-clause-few : goal.returns-clause-few
returns-clause-few c =
    let e = product_kept c.product.ensures.value (whole_kept c.requires.some c.requires.few) (kept_64 (as_32 c.requires.near (lit< tt)) (lit< tt) ∙ kept_32 c.requires.near (lit< tt)) in
    divisor_few c.args.whole c.args.w c.requires.some c.requires.few c.requires.positive c.requires.near
    (divisor_is_kept c.args.whole c.args.w c.requires.some c.requires.few c.requires.positive c.requires.near e)
