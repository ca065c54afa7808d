-- Lists of events and of entries: those that only ask, and those behind others.
use Rattle.std.proofs.Common.{◌≡◌, List, [], ◌∷◌, ◌++◌, refl, sym, ap, ◌∙◌}
use Rattle.gl_objects.specs.declared.event.Event.{Event}
use Rattle.gl_objects.specs.declared.event.Event.TheVariants as ev
use Rattle.gl_objects.specs.View.{ObjectsView}
use Rattle.gl_objects.specs.Step.{step}
use Rattle.gl_objects.specs.History.{Entry, changes, objects_after, replay_from, LegalFrom}
use Rattle.gl_objects.specs.Laws.{SplitsLegally}

objects_after-changes : (objects : ObjectsView) (events : List Event) → objects_after objects events ≡ objects_after objects (changes events)
objects_after-changes objects [] = refl
objects_after-changes objects ((ev.Is kind name) ∷ events) = objects_after-changes objects events
objects_after-changes objects ((ev.Use buffers textures) ∷ events) = objects_after-changes objects events
objects_after-changes objects (event ∷ events) = objects_after-changes (step objects event) events

pub same_changes : (objects : ObjectsView) (one other : List Event) → changes one ≡ changes other → objects_after objects one ≡ objects_after objects other
same_changes objects one other same =
    objects_after-changes objects one ∙ ap (objects_after objects) same ∙ sym (objects_after-changes objects other)

parts_of : (objects : ObjectsView) (entries more : List Entry) → LegalFrom objects (entries ++ more) → LegalFrom objects entries × LegalFrom (replay_from objects entries) more
parts_of objects [] more h = (tt, h)
parts_of objects (entry ∷ entries) more h =
    let rest = parts_of (step objects entry.event) entries more h.1 in
    ((h.0, rest.0), rest.1)

whole_of : (objects : ObjectsView) (entries more : List Entry) → LegalFrom objects entries → LegalFrom (replay_from objects entries) more → LegalFrom objects (entries ++ more)
whole_of objects [] more first second = second
whole_of objects (entry ∷ entries) more first second = (first.0, whole_of (step objects entry.event) entries more first.1 second)

pub splits_legally : (objects : ObjectsView) (entries more : List Entry) → SplitsLegally objects entries more
splits_legally objects entries more = (parts_of objects entries more, λ parts. whole_of objects entries more parts.0 parts.1)
