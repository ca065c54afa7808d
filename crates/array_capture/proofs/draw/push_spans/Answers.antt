use Rattle.std.proofs.Common.{List, ◌++◌, ap, sym, ◌∙◌, append-nil, arith}
use Rattle.std.specs.List.{flat_map}
use Rattle.std.proofs.lemmas.List.{take_all}
use Rattle.gl_tracked.specs.declared.tracked.ArrayState.{ArrayState}
use Rattle.array_capture.proofs.Drawing.{part_of_array, parts_pushed}
use Rattle.array_capture.proofs.draw.push_spans.Goals as goal

pub loop-array-init : goal.loop-array-init
loop-array-init c = record { so_far = sym (append-nil c.args.pieces.now); few = omega arith }

pub loop-array-preserved : goal.loop-array-preserved
loop-array-preserved c =
    record {
      so_far =
          parts_pushed (part_of_array c.args.end c.args.least c.args.greatest) c.args.pieces.now c.loop-array.pieces c.push_span.new.pieces c.args.arrays.now
          c.loop-array.array-index _ (omega arith) c.loop-array.invariant.so_far c.push_span.ensures.span;
      few = omega (arith, c.push_span.ensures.few, c.loop-array.invariant.few);
    }

pub returns-clause-spans : goal.returns-clause-spans
returns-clause-spans c =
    c.loop-array.invariant.so_far
    ∙ ap (λ (arrays : List ArrayState). c.args.pieces.now ++ flat_map (part_of_array c.args.end c.args.least c.args.greatest) arrays)
    (take_all c.loop-array.array-index c.args.arrays.now (omega arith))
