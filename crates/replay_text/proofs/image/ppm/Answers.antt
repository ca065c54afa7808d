use Rattle.std.proofs.Common.{◌-◌, ◌++◌, ap, ◌∙◌, arith}
use Rattle.replay_text.specs.Ppm.{ppm_of, rows_from_top}
use Rattle.replay_text.proofs.PpmLemmas.{row_fits, row_written}
use Rattle.replay_text.proofs.image.ppm.Goals as goal

pub put_colours-requires : goal.put_colours-requires
put_colours-requires c = record { room = row_fits _ c.args.pixels.now _ c.args.width c.args.height c.rows.row (c.rows.row - 1) _ (omega arith) c.row_in.ensures c.rows.invariant.whole c.rows.invariant.same_room }

pub rows-preserved : goal.rows-preserved
rows-preserved c =
    let pixels = c.args.pixels.now in
    let written = row_written c.rows.image.items pixels c.row_in.result.now (ppm_of c.args.width c.args.height pixels) c.args.width c.rows.row (c.rows.row - 1) (omega arith) c.row_in.ensures c.rows.invariant.whole in
    record {
      whole = ap (λ image. image.items ++ rows_from_top c.args.width (c.rows.row - 1) pixels) c.put_colours.ensures ∙ written;
      same_room = ap (λ image. image.room) c.put_colours.ensures ∙ c.rows.invariant.same_room;
    }
