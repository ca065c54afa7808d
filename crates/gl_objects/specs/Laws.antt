-- What laws say of the definitions; own.
use Rattle.std.specs.Prelude.{◌≡◌, ℕ, ◌+◌, ◌-◌, if◌then◌else◌, nat_eq, nat_le, nat_lt, ◌&&◌, List, ◌++◌, length, slice_index, ◌↔◌, None, true}
use Rattle.std.specs.List.{AllByRecursion}
use Rattle.gl_objects.specs.declared.event.Event.TheVariants as ev
use Rattle.gl_objects.specs.declared.named.Named.{Named}
use Rattle.gl_objects.specs.View.{ObjectsView}
use Rattle.gl_objects.specs.Table.{is_free, least_free}
use Rattle.gl_objects.specs.Step.{step, fault_of, byte_in}
use Rattle.gl_objects.specs.History.{Entry, replay_from, LegalFrom}

-- a list of entries is legal exactly where its first part is, and its second after the first
abbrev pub SplitsLegally : ObjectsView → List Entry → List Entry → Type 0
SplitsLegally objects entries more =
    LegalFrom objects (entries ++ more) ↔ (LegalFrom objects entries × LegalFrom (replay_from objects entries) more)

-- as many names as were asked for, each in use nowhere
pub record AreLeastFree {T : Type 0} (table : List (ℕ × Named T)) (n : ℕ) : Type 0 where
  pub many : length (least_free table n) ≡ n
  pub free : AllByRecursion (λ name. is_free table name ≡ true) (least_free table n)

-- the byte at a place of a store after bytes were written over a part of one: the one written there, else the old one
abbrev pub part_byte : ObjectsView → ℕ → ℕ → List ℕ → ℕ → ℕ → ℕ
part_byte objects name offset bytes other at =
    if nat_eq other name && (nat_le offset at && nat_lt at (offset + length bytes)) then slice_index bytes (at - offset) else byte_in objects other at

-- what BufferPart leaves at each place of each store, where it has no fault
abbrev pub WritesPart : ObjectsView → ℕ → ℕ → List ℕ → Type 0
WritesPart objects name offset bytes =
    fault_of objects (ev.BufferPart name offset bytes) ≡ None
    → (other at : ℕ) → byte_in (step objects (ev.BufferPart name offset bytes)) other at ≡ part_byte objects name offset bytes other at
