use Rattle.std.proofs.Common.{◌≡◌, ℕ, ◌<◌, List, length, sym, ap, subst, ◌∙◌, arith}
use Rattle.std.specs.Prelude.{slice_get}
use Rattle.std.specs.Option.{option_map}
use Rattle.std.proofs.lemmas.Option.{slice_get-get_or}
use Rattle.gl_objects.specs.History.{Entry}
use Rattle.soft_driver.specs.declared.book.Kept.{Kept}
use Rattle.soft_driver.specs.Book.{entries_kept}
use Rattle.soft_driver.proofs.Books.{length-entries_kept, seat_at-entries_kept}
use Rattle.soft_driver.proofs.book.Book.seat_at.Goals as goal

-- a place among entries lies among what is kept
within : (slice kept : List Kept) (entries : List Entry) (at : ℕ) → slice ≡ kept → entries_kept kept ≡ entries → at < length entries → at < length slice
within slice kept entries at same seen place =
    let long = ap (λ (all : List Entry). length all) (sym seen) ∙ length-entries_kept kept ∙ ap (λ (all : List Kept). length all) (sym same) in
    subst (λ (n : ℕ). at < n) long place

pub bounds-as_slice-at : goal.bounds-as_slice-at
bounds-as_slice-at c = within c.as_slice.result.now c.self.inside.kept.items c.args.self.now c.args.at c.as_slice.ensures.value c.self.view_is c.requires.place

pub bounds-as_slice-at-2 : goal.bounds-as_slice-at-2
bounds-as_slice-at-2 c = within c.as_slice.result.now c.self.inside.kept.items c.args.self.now c.args.at c.as_slice.ensures.value c.self.view_is c.requires.place

pub offset_bounds-as_slice-at : goal.offset_bounds-as_slice-at
offset_bounds-as_slice-at c =
    let inside = within c.as_slice.result.now c.self.inside.kept.items c.args.self.now c.args.at c.as_slice.ensures.value c.self.view_is c.requires.place in
    record { fits = omega (arith, inside, c.as_slice.type_inv.1) }

pub returns : goal.returns
returns c =
    let one = c.index-as_slice-at.result in
    let seat : Kept → ℕ = λ k. k.seat in
    let slice = c.as_slice.result.now in
    let inside = within slice c.self.inside.kept.items c.args.self.now c.args.at c.as_slice.ensures.value c.self.view_is c.requires.place in
    ap (option_map seat) (sym (slice_get-get_or slice c.args.at one inside))
    ∙ ap (λ (kept : List Kept). option_map seat (slice_get kept c.args.at)) c.as_slice.ensures.value
    ∙ sym (seat_at-entries_kept c.self.inside.kept.items c.args.at)
    ∙ ap (λ (entries : List Entry). option_map (λ (entry : Entry). entry.seat) (slice_get entries c.args.at)) c.self.view_is
