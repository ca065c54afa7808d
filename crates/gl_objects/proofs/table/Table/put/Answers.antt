use Rattle.std.proofs.Common.{◌≡◌, unwrap_or, ap, ◌∙◌, arith}
use Rattle.std.specs.Option.{option_map}
use Rattle.gl_objects.specs.Table.{size_in, size_at, total}
use Rattle.gl_objects.proofs.Tables.{total-put, size_at-within}
use Rattle.gl_objects.proofs.UsedNames.{AreUsed-alike, AreUsed-put}
use Rattle.gl_objects.proofs.table.Table.put.Goals as goal

pub overflow_add-self : goal.overflow_add-self
overflow_add-self g c =
    let entries = c.self.inside.entries.entries in
    let all = ap (total g.T.Held.size) c.self.view_is in
    let here = ap (λ table. size_at g.T.Held.size table c.args.name) c.self.view_is in
    let within = size_at-within g.T.Held.size c.args.name entries in
    omega (arith, all, here, within, c.requires.room, c.size_of_named-size.ensures, c.self.invariant.0, c.self.invariant.1.0)

pub overflow_sub-self : goal.overflow_sub-self
overflow_sub-self g c =
    let before : c.size_before-before.result ≡ size_at g.T.Held.size c.self.inside.entries.entries c.args.name =
    c.size_before-before.ensures ∙ ap (λ old. unwrap_or (option_map (size_in g.T.Held.size) old) 0) c.in_ok-insert.ensures.old in
    let within = size_at-within g.T.Held.size c.args.name c.self.inside.entries.entries in
    omega (arith, before, within, c.self.invariant.0)

pub invariant_of-self-2 : goal.invariant_of-self-2
invariant_of-self-2 g c =
    let entries = c.self.inside.entries.entries in
    let before : c.size_before-before.result ≡ size_at g.T.Held.size entries c.args.name =
    c.size_before-before.ensures ∙ ap (λ old. unwrap_or (option_map (size_in g.T.Held.size) old) 0) c.in_ok-insert.ensures.old in
    let all = ap (total g.T.Held.size) c.self.view_is in
    let here = ap (λ table. size_at g.T.Held.size table c.args.name) c.self.view_is in
    let left = ap (total g.T.Held.size) c.in_ok-insert.ensures.entries in
    let sum = total-put g.T.Held.size c.args.name c.args.what entries c.insert.ensures.was_ordered in (
      omega (arith, before, left, sum, c.size_of_named-size.ensures, c.self.invariant.0),
      (
        omega (arith, before, all, here, c.requires.room, c.size_of_named-size.ensures, c.self.invariant.0),
        AreUsed-alike _ _ c.self.inside.full c.in_ok-insert.ensures.entries (AreUsed-put c.args.name c.args.what entries c.self.inside.full c.self.invariant.1.1),
      ),
    )
