-- Lists of events: what they leave, and whether what was replied to them is right; own.
use Rattle.std.specs.Prelude.{◌≡◌, ℕ, not, List, [], ◌∷◌}
use Rattle.std.specs.List.{filter}
use Rattle.gl_objects.specs.declared.event.Event.{Event}
use Rattle.gl_objects.specs.declared.reply.EventReply.{EventReply}
use Rattle.gl_objects.specs.View.{ObjectsView}
use Rattle.gl_objects.specs.Event.{is_asking}
use Rattle.gl_objects.specs.Step.{no_objects, step, reply_of}

-- the objects after events, one after another
abbrev pub objects_after : ObjectsView → List Event → ObjectsView
objects_after objects [] = objects
objects_after objects (event ∷ events) = objects_after (step objects event) events

-- the events that may change something
abbrev pub changes : List Event → List Event
changes events = filter (λ event. not (is_asking event)) events

-- an event, the seat that it came from, and what was replied
pub record Entry : Type 0 where
  pub seat : ℕ
  pub event : Event
  pub reply : EventReply

-- the objects after the events of entries
abbrev pub replay_from : ObjectsView → List Entry → ObjectsView
replay_from objects [] = objects
replay_from objects (entry ∷ entries) = replay_from (step objects entry.event) entries

-- the objects after all entries of a history
abbrev pub replay : List Entry → ObjectsView
replay entries = replay_from no_objects entries

-- each entry's reply is the one that its event has after the entries before it
abbrev pub LegalFrom : ObjectsView → List Entry → Type 0
LegalFrom objects [] = Unit {0}
LegalFrom objects (entry ∷ entries) = (entry.reply ≡ reply_of objects entry.event) × LegalFrom (step objects entry.event) entries

-- a history whose replies are right
abbrev pub Legal : List Entry → Type 0
Legal entries = LegalFrom no_objects entries
