-- What a law says of the step of a call; own.
use Rattle.std.specs.Prelude.{◌≡◌, List, None}
use Rattle.gl_words.specs.declared.call.Call.{Call}
use Rattle.gl_memory.specs.Segment.{Segment}
use Rattle.gl_objects.specs.View.{ObjectsView}
use Rattle.soft_driver.specs.Own.{Own, event_of, own_step}

-- where a call on a memory makes no event, its step is the same beside all objects; own
abbrev pub StandsAlone : Own → Call → List Segment → Type 0
StandsAlone own call memory = event_of own call memory ≡ None → (one other : ObjectsView) → own_step own call memory one ≡ own_step own call memory other
