-- What a book keeps: its entries are legal, and one entry more stands behind them.
use Rattle.std.proofs.Common.{◌≡◌, ℕ, zero, suc, List, [], ◌∷◌, ◌++◌, length, refl, ap, ◌∙◌}
use Rattle.std.specs.Prelude.{slice_get}
use Rattle.std.specs.Option.{option_map}
use Rattle.gl_objects.specs.History.{Entry, LegalFrom, Legal, replay, replay_from}
use Rattle.gl_objects.specs.Step.{no_objects, step}
use Rattle.gl_objects.specs.View.{ObjectsView}
use Rattle.soft_driver.specs.declared.book.Kept.{Kept}
use Rattle.soft_driver.specs.Book.{entered, entries_from, entries_kept, entry_of}

legal_from : (objects : ObjectsView) (kept : List Kept) → LegalFrom objects (entries_from objects kept)
unfolding entries_from
legal_from objects [] = tt
legal_from objects (one ∷ others) = (refl, legal_from (step objects one.event) others)

-- the entries of a book are legal
pub entries_kept-legal : (kept : List Kept) → Legal (entries_kept kept)
entries_kept-legal kept = legal_from no_objects kept

-- a replay of entries and others behind them
pub replay_from-append : (objects : ObjectsView) (entries more : List Entry) → replay_from objects (entries ++ more) ≡ replay_from (replay_from objects entries) more
replay_from-append objects [] more = refl
replay_from-append objects (entry ∷ entries) more = replay_from-append (step objects entry.event) entries more

entries_from-append : (objects : ObjectsView) (kept : List Kept) (one : Kept)
    → entries_from objects (kept ++ one ∷ []) ≡ entries_from objects kept ++ entry_of (replay_from objects (entries_from objects kept)) one.seat one.event ∷ []
unfolding entries_from
entries_from-append objects [] one = refl
entries_from-append objects (kept ∷ others) one = ap (λ (entries : List Entry). entry_of objects kept.seat kept.event ∷ entries) (entries_from-append (step objects kept.event) others one)

-- what is kept with one more is the history with its entry
pub entries_kept-append : (kept : List Kept) (one : Kept) → entries_kept (kept ++ one ∷ []) ≡ entered (entries_kept kept) one.seat one.event
entries_kept-append kept one = entries_from-append no_objects kept one

-- and leads to what its event makes of the objects
pub replay-entered : (kept : List Kept) (one : Kept) → replay (entries_kept (kept ++ one ∷ [])) ≡ step (replay (entries_kept kept)) one.event
replay-entered kept one =
    ap replay (entries_kept-append kept one)
    ∙ replay_from-append no_objects (entries_kept kept) (entry_of (replay (entries_kept kept)) one.seat one.event ∷ [])

length-entries_from : (objects : ObjectsView) (kept : List Kept) → length (entries_from objects kept) ≡ length kept
unfolding entries_from
length-entries_from objects [] = refl
length-entries_from objects (one ∷ others) = ap suc (length-entries_from (step objects one.event) others)

-- a book has as many entries as it keeps
pub length-entries_kept : (kept : List Kept) → length (entries_kept kept) ≡ length kept
length-entries_kept kept = length-entries_from no_objects kept

seat_at-entries_from : (objects : ObjectsView) (kept : List Kept) (at : ℕ)
    → option_map (λ (entry : Entry). entry.seat) (slice_get (entries_from objects kept) at) ≡ option_map (λ (one : Kept). one.seat) (slice_get kept at)
unfolding entries_from
seat_at-entries_from objects [] at = refl
seat_at-entries_from objects (one ∷ others) zero = refl
seat_at-entries_from objects (one ∷ others) (suc at) = seat_at-entries_from (step objects one.event) others at

-- and each with its seat
pub seat_at-entries_kept : (kept : List Kept) (at : ℕ) → option_map (λ (entry : Entry). entry.seat) (slice_get (entries_kept kept) at) ≡ option_map (λ (one : Kept). one.seat) (slice_get kept at)
seat_at-entries_kept kept at = seat_at-entries_from no_objects kept at
