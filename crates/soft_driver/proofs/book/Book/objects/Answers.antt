use Rattle.std.proofs.Common.{subst}
use Rattle.gl_objects.specs.History.{Legal}
use Rattle.soft_driver.proofs.Books.{entries_kept-legal}
use Rattle.soft_driver.proofs.book.Book.objects.Goals as goal

pub returns-clause-legal : goal.returns-clause-legal
returns-clause-legal c = subst Legal c.self.view_is (entries_kept-legal c.self.inside.kept.items)
