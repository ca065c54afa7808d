use Rattle.std.proofs.Common.{◌≡◌, List, [], ◌∷◌, length, sym, ap, ◌∙◌, rules}
use Rattle.fixed_transform.specs.Stack.{top_of}
use Rattle.fixed_transform.specs.declared.matrix.Matrix.{Matrix}
use Rattle.fixed_transform.proofs.Stacks.{length-stacked, stacked-pushed}
use Rattle.fixed_transform.proofs.stack.Stack.push.Goals as goal

pub returns-then-self-clause-full : goal.returns-then-self-clause-full
returns-then-self-clause-full g c =
    let same : length c.args.self.now ≡ c.self.inside.depth = ap length (sym c.self.view_is) ∙ length-stacked c.self.inside.matrices c.self.inside.depth in
    search (rules, same)

pub returns-clause-ok : goal.returns-clause-ok
returns-clause-ok g c =
    let same = stacked-pushed c.self.inside.matrices c.self.inside.depth (record { values = [] }) c.self.invariant.0 (search rules) in
    same ∙ ap (λ (l : List Matrix). top_of l ∷ l) c.self.view_is

pub returns-clause-full : goal.returns-clause-full
returns-clause-full g c =
    let same : length c.args.self.now ≡ c.self.inside.depth = ap length (sym c.self.view_is) ∙ length-stacked c.self.inside.matrices c.self.inside.depth in
    search (rules, same)
