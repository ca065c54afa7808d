use Rattle.std.proofs.Common.{List, length, sym, ap, ◌∙◌}
use Rattle.gl_objects.specs.History.{Entry}
use Rattle.soft_driver.specs.declared.book.Kept.{Kept}
use Rattle.soft_driver.proofs.Books.{length-entries_kept}
use Rattle.soft_driver.proofs.book.Book.len.Goals as goal

pub returns : goal.returns
returns c =
    ap (λ (kept : List Kept). length kept) c.as_slice.ensures.value
    ∙ sym (length-entries_kept c.self.inside.kept.items)
    ∙ ap (λ (entries : List Entry). length entries) c.self.view_is
