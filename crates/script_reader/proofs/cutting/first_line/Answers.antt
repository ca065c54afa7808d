-- text ends at the LF behind it
use Rattle.std.proofs.Common.{◌≡◌, get_or, arith, rules}
use Rattle.script_reader.proofs.Cuts.{line_of_text, line_is_text}
use Rattle.script_reader.proofs.cutting.first_line.Goals as goal

pub returns-then-bytes-len-eq10-clause-first : goal.returns-then-bytes-len-eq10-clause-first
returns-then-bytes-len-eq10-clause-first c =
    let here : get_or c.args.bytes.now c.text_len-len.result 0 ≡ 10 = search rules in
    line_of_text c.args.bytes.now c.split_at.result.0.now c.split_at.result.1.now c.text_len-len.result
    c.text_len-len.ensures.text (omega arith) here c.split_at.ensures.front c.split_at.ensures.back

pub returns-then-bytes-len-eq10-clause-text : goal.returns-then-bytes-len-eq10-clause-text
returns-then-bytes-len-eq10-clause-text c =
    let here : get_or c.args.bytes.now c.text_len-len.result 0 ≡ 10 = search rules in
    line_is_text c.args.bytes.now c.split_at.result.0.now c.split_at.result.1.now c.text_len-len.result
    c.text_len-len.ensures.text (omega arith) here c.split_at.ensures.front
