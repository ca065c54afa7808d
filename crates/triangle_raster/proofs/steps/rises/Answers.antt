use Rattle.triangle_raster.proofs.Carries.{rise_kept, rise_near}
use Rattle.triangle_raster.proofs.Vectors.{same_weights}
use Rattle.triangle_raster.proofs.steps.rises.Goals as goal

pub returns-clause-value : goal.returns-clause-value
returns-clause-value c = same_weights (rise_kept c.requires.first_near.across) (rise_kept c.requires.second_near.across) (rise_kept c.requires.third_near.across)

pub returns-clause-near : goal.returns-clause-near
returns-clause-near c = record {
  near_one = rise_near c.requires.first_near.across;
  near_two = rise_near c.requires.second_near.across;
  near_three = rise_near c.requires.third_near.across;
}
