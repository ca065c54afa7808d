use Rattle.std.proofs.Common.{◌≤ℤ◌, ℤ, pos, ◌+ℤ◌, refl, sym, ap, ◌∙◌, w32, to_z, of_z, arith}
use Rattle.std.proofs.lemmas.Int.{ints, to_z-of_z}
use Rattle.triangle_raster.specs.Held.{alike_from, AreColumns}
use Rattle.triangle_raster.proofs.Bounds.{kept_column}
use Rattle.triangle_raster.proofs.Rows.{pixels_at-kept}
use Rattle.triangle_raster.proofs.Runs.{no_run_of_columns, run_of_columns}
use Rattle.triangle_raster.proofs.run.Run.from_column.Goals as goal

pub returns-in-Some : goal.returns-in-Some
returns-in-Some c =
    let columns = c.covered-columns in
    let low : pos 0 ≤ℤ columns.result.x = columns.ensures.from_zero in
    let width : (columns.result.x +ℤ pos columns.result.left) ≤ℤ pos 256 = columns.ensures.in_width in
    let are : AreColumns c.args.shape.now (to_z w32 (of_z w32 c.args.y)) columns.result = record {
      first_from_zero = columns.ensures.from_zero;
      end_in_width = columns.ensures.in_width;
      each_covered = columns.ensures.covered;
    } in
    sym (columns.ensures.seen ∙ pixels_at-kept _ _ (to_z-of_z w32 c.args.y c.ranges.y) (to_z-of_z w32 c.args.x c.ranges.x) refl)
    ∙ run_of_columns c.args.shape.now c.requires.shape c.requires.level c.requires.ten c.requires.same (to_z w32 (of_z w32 c.args.y)) columns.result are c.depth_in.result c.depth_in.ensures c.in-Some.is
    (c.alike.ensures.first ∙ ap (λ (z : ℤ). alike_from c.args.shape.now (to_z w32 (of_z w32 c.args.y)) z c.in-Some.depth) (kept_column (low, omega (arith, ints))))
    c.alike.ensures.count

pub returns-in-None : goal.returns-in-None
returns-in-None c =
    let columns = c.covered-columns in
    let are : AreColumns c.args.shape.now (to_z w32 (of_z w32 c.args.y)) columns.result = record {
      first_from_zero = columns.ensures.from_zero;
      end_in_width = columns.ensures.in_width;
      each_covered = columns.ensures.covered;
    } in
    sym (columns.ensures.seen ∙ pixels_at-kept _ _ (to_z-of_z w32 c.args.y c.ranges.y) (to_z-of_z w32 c.args.x c.ranges.x) refl)
    ∙ no_run_of_columns c.args.shape.now c.requires.shape c.requires.level c.requires.ten c.requires.same (to_z w32 (of_z w32 c.args.y)) columns.result are c.depth_in.result c.depth_in.ensures
    c.alike-in-None.result.first c.in-None.is c.alike-in-None.ensures.count
