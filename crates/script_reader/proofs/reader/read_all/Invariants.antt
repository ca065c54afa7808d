-- the lines so far were heard, and judging the others behind them gives what judging all gives
use Rattle.std.proofs.Common.{◌≡◌, ◌+◌, ◌≤◌, [], List, length}
use Rattle.script_reader.specs.Cutting.{lines_of}
use Rattle.script_reader.specs.Grammar.{all_said}
use Rattle.script_reader.specs.Heard.{IsHeard}
use Rattle.script_reader.specs.declared.before.Said.{Said}
use Rattle.script_reader.proofs.reader.read_all.Given as goal

abbrev pub invariant-loop-rest : goal.invariant-loop-rest
invariant-loop-rest l = record {
  place : l.at + length l.rest ≡ length l.bytes;
  few : l.heard.before.contexts ≤ l.heard.before.lines;
  lines : l.heard.before.lines ≤ 262144;
  heard : (saids : List Said) × IsHeard l.heard saids × (all_said l.at saids (lines_of l.rest) ≡ all_said 0 [] (lines_of l.bytes));
}

abbrev pub decreases-loop-rest : goal.decreases-loop-rest
decreases-loop-rest l = length l.rest
