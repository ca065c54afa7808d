use Rattle.std.proofs.Common.{List, ◌∷◌, ap, ◌∙◌, rules}
use Rattle.fixed_transform.specs.Stack.{below_top}
use Rattle.fixed_transform.specs.declared.matrix.Matrix.{Matrix}
use Rattle.fixed_transform.proofs.Stacks.{stacked-set_top}
use Rattle.fixed_transform.proofs.stack.Stack.set_top.Goals as goal

pub returns : goal.returns
returns g c =
    let same = stacked-set_top c.self.inside.matrices c.self.inside.depth c.args.matrix c.self.invariant.0 (search rules) in
    same ∙ ap (λ (l : List Matrix). c.args.matrix ∷ below_top l) c.self.view_is
