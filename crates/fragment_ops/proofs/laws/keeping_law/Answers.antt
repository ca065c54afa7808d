use Rattle.fragment_ops.proofs.Keeping.{clear_keeps, fragment_keeps}
use Rattle.fragment_ops.proofs.laws.keeping_law.Goals as goal

pub returns-clause-fragment : goal.returns-clause-fragment
returns-clause-fragment c = λ place fragment old. fragment_keeps c.args.state.now place fragment old

pub returns-clause-clear : goal.returns-clause-clear
returns-clause-clear c = λ place colour depth old. clear_keeps c.args.state.now colour depth place old
