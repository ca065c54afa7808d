use Rattle.std.proofs.Common.{length, sym, ap, ◌∙◌}
use Rattle.fixed_transform.proofs.Stacks.{length-stacked}
use Rattle.fixed_transform.proofs.stack.Stack.depth.Goals as goal

pub returns-clause-depth : goal.returns-clause-depth
returns-clause-depth g c = sym (ap (length) (sym c.self.view_is) ∙ length-stacked c.self.inside.matrices c.self.inside.depth)
