use Rattle.std.proofs.Common.{sym, ◌∙◌, lit<}
use Rattle.triangle_raster.proofs.Bounds.{within_from_test}
use Rattle.triangle_raster.proofs.Fragments.{all_true}
use Rattle.triangle_raster.proofs.edge.Edge.is_small.Goals as goal

pub returns : goal.returns
returns c = λ t.
    let all = all_true c.is_within.result c.is_within-2.result c.is_within-3.result (sym c.all_of.ensures ∙ t) in
    record {
      small_across = within_from_test c.requires.across (lit< tt) (c.is_within.ensures all.0);
      small_upward = within_from_test c.requires.upward (lit< tt) (c.is_within-2.ensures all.1);
      small_divisor = within_from_test c.requires.divisor (lit< tt) (c.is_within-3.ensures all.2);
    }
