-- each line goes on from those before it
use Rattle.std.proofs.Common.{refl, [], ◌∷◌, ◌++◌, arith, rules}
use Rattle.script_reader.proofs.Hearing.{lines_go_on, lines_stop, all_is_heard, no_end_is_heard}
use Rattle.script_reader.proofs.reader.read_all.Goals as goal

pub loop-rest-init : goal.loop-rest-init
loop-rest-init c = record { place = omega arith; few = omega arith; lines = omega arith; heard = ([], c.nothing_heard-heard.ensures.heard, refl) }

pub returns-in-Err : goal.returns-in-Err
returns-in-Err c =
    let heard = c.loop-rest.invariant.heard in
    lines_stop c.loop-rest.at (heard.0) c.loop-rest.rest.now c.first_line-is_text.result.0.now c.first_line-is_text.result.1.now c.args.bytes.now c.in-Err.refusal c.first_line-is_text.ensures.first (c.in-Err.ensures.err (heard.0) (heard.1)) (heard.2)

pub loop-rest-preserved : goal.loop-rest-preserved
loop-rest-preserved c =
    let heard = c.loop-rest.invariant.heard in
    let next = c.in-Ok.ensures.ok (heard.0) (heard.1) in
    record {
      place = omega arith;
      few = search rules;
      lines = search rules;
      heard = (heard.0 ++ next.0 ∷ [], next.2, lines_go_on c.loop-rest.at (heard.0) c.loop-rest.rest.now c.first_line-is_text.result.0.now c.first_line-is_text.result.1.now (next.0) _ c.first_line-is_text.ensures.first (next.1) (heard.2));
    }

pub returns-then-heard : goal.returns-then-heard
returns-then-heard c =
    let heard = c.loop-rest.invariant.heard in
    all_is_heard c.loop-rest.heard c.loop-rest.at (heard.0) c.loop-rest.rest.now c.args.bytes.now (heard.1) (search rules) (search rules) (heard.2)

pub returns-else-heard : goal.returns-else-heard
returns-else-heard c =
    let heard = c.loop-rest.invariant.heard in
    no_end_is_heard c.loop-rest.heard c.loop-rest.at (heard.0) c.loop-rest.rest.now c.args.bytes.now (heard.1) (search rules) (search rules) (heard.2)
