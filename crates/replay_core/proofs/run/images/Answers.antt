use Rattle.replay_core.specs.Script.{seen_script}
use Rattle.replay_core.proofs.Wholes.{all_told_is_whole}
use Rattle.replay_core.proofs.run.images.Goals as goal

pub files-requires : goal.files-requires
files-requires c = record { whole = all_told_is_whole c.args.context (seen_script c.args.script.now) c.args.results.now c.requires.told c.requires.lines }
