-- A book of objects: its history, as entries that it keeps without their replies, which follow from the entries before them; own. Who shares a book stands nowhere here.
use Rattle.std.specs.Prelude.{ℕ, List, [], ◌∷◌, ◌++◌}
use Rattle.gl_objects.specs.declared.event.Event.{Event}
use Rattle.gl_objects.specs.History.{Entry, replay}
use Rattle.gl_objects.specs.Step.{no_objects, reply_of, step}
use Rattle.gl_objects.specs.View.{ObjectsView}
use Rattle.soft_driver.specs.declared.book.Kept.{Kept}

-- the entry of an event that came from a seat to these objects: its reply is the one that the event has there; own
abbrev pub entry_of : ObjectsView → ℕ → Event → Entry
entry_of objects seat event = record { seat = seat; event = event; reply = reply_of objects event }

-- the entries of what is kept, from these objects on; own
unfoldable pub entries_from : ObjectsView → List Kept → List Entry
entries_from objects [] = []
entries_from objects (kept ∷ others) = entry_of objects kept.seat kept.event ∷ entries_from (step objects kept.event) others

-- the entries of what is kept from the start on; own
abbrev pub entries_kept : List Kept → List Entry
entries_kept kept = entries_from no_objects kept

-- a history with one entry more, the event of a seat, which came to the objects that the history leads to; own
abbrev pub entered : List Entry → ℕ → Event → List Entry
entered entries seat event = entries ++ entry_of (replay entries) seat event ∷ []
