use Rattle.replay_lines.specs.Lines.{lines_in}
use Rattle.example_driver.proofs.Runs.{tells_alone}
use Rattle.example_driver.proofs.through.told_through.Goals as goal

pub returns : goal.returns
returns g c =
    let rails = g.M.Made.RailState in
    tells_alone g.D.Machine.tracked g.D.Machine.steps rails.stands rails.failed rails.journal rails.sent (rails.size c.in-Ok.rail) (lines_in 0 c.args.lines.now)
    c.in-Ok.rail c.into_parts-rail.result.0 c.args.memory c.in-Ok-new.front c.run_lines.new.front c.flush.new.self c.new-results.result c.run_lines.new.results c.args.driver c.in_ok-driver.driver
    c.in-Ok-new.ensures.ok c.new-results.ensures c.in-Ok.ensures.unused.only c.in_ok-run_lines.ensures.ok c.flush.ensures.flushed c.into_parts-rail.ensures.rail c.in_ok-driver.ensures.ok
