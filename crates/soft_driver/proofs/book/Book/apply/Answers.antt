use Rattle.std.proofs.Common.{List, [], ◌∷◌, ◌++◌, sym, ap, ◌∙◌}
use Rattle.gl_objects.specs.History.{Entry, replay}
use Rattle.gl_objects.specs.Step.{step}
use Rattle.gl_objects.specs.View.{ObjectsView}
use Rattle.soft_driver.specs.declared.book.Kept.{Kept}
use Rattle.soft_driver.specs.Book.{entered, entries_kept}
use Rattle.soft_driver.proofs.Books.{entries_kept-append, replay-entered}
use Rattle.soft_driver.proofs.book.Book.apply.Goals as goal

-- what is kept with one more behind it
abbrev with_one : Kept → List Kept → List Kept
with_one one kept = kept ++ one ∷ []

pub invariant_of-self-in-Ok : goal.invariant_of-self-in-Ok
invariant_of-self-in-Ok c =
    let kept = c.self.inside.kept.items in
    let one : Kept = record { seat = c.args.seat; event = c.args.event } in
    let items = c.push_reserved.ensures.items ∙ ap (with_one one) c.reserve.ensures.items in
    c.in-Ok.ensures.ok
    ∙ ap (λ (objects : ObjectsView). step objects c.args.event) c.self.invariant
    ∙ sym (ap (λ (all : List Kept). replay (entries_kept all)) items ∙ replay-entered kept one)

pub returns-in-Ok-clause-ok : goal.returns-in-Ok-clause-ok
returns-in-Ok-clause-ok c =
    let kept = c.self.inside.kept.items in
    let one : Kept = record { seat = c.args.seat; event = c.args.event } in
    let items = c.push_reserved.ensures.items ∙ ap (with_one one) c.reserve.ensures.items in
    ap entries_kept items
    ∙ entries_kept-append kept one
    ∙ ap (λ (entries : List Entry). entered entries c.args.seat c.args.event) c.self.view_is
