use Rattle.std.proofs.Common.{◌≡◌, [], ◌∷◌, unwrap_or, ap, ◌∙◌, arith}
use Rattle.std.specs.Option.{option_map}
use Rattle.gl_objects.specs.Table.{without, size_in, size_at, total}
use Rattle.gl_objects.proofs.Tables.{without-remove_entry, total-remove_entry, size_at-within}
use Rattle.gl_objects.proofs.UsedNames.{AreUsed-alike, AreUsed-remove_entry}
use Rattle.gl_objects.proofs.table.Table.forget.Goals as goal

pub overflow_sub-self : goal.overflow_sub-self
overflow_sub-self g c =
    let before : c.size_before-before.result ≡ size_at g.T.Held.size c.self.inside.entries.entries c.args.name =
    c.size_before-before.ensures ∙ ap (λ old. unwrap_or (option_map (size_in g.T.Held.size) old) 0) c.remove.ensures.value in
    omega (arith, before, size_at-within g.T.Held.size c.args.name c.self.inside.entries.entries, c.self.invariant.0)

pub invariant_of-self : goal.invariant_of-self
invariant_of-self g c =
    let before : c.size_before-before.result ≡ size_at g.T.Held.size c.self.inside.entries.entries c.args.name =
    c.size_before-before.ensures ∙ ap (λ old. unwrap_or (option_map (size_in g.T.Held.size) old) 0) c.remove.ensures.value in
    let left = ap (total g.T.Held.size) c.remove.ensures.entries in
    let all = total-remove_entry g.T.Held.size c.args.name c.self.inside.entries.entries in
    let entries = c.self.inside.entries.entries in
    let used =
    AreUsed-remove_entry c.args.name entries c.self.inside.full c.used_below-self-inside.result c.len-ordered.ensures.ordered c.used_below-self-inside.ensures.few c.used_below-self-inside.ensures.apart
    c.self.invariant.1.1 in
    (omega (arith, before, left, all, c.self.invariant.0), (omega (arith, c.self.invariant.1.0), AreUsed-alike _ _ c.used_below-self-inside.result c.remove.ensures.entries used))

pub returns : goal.returns
returns g c =
    c.remove.ensures.entries
    ∙ without-remove_entry c.args.name c.self.inside.entries.entries c.len-ordered.ensures.ordered
    ∙ ap (without (c.args.name ∷ [])) c.self.view_is
