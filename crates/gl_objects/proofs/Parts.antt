-- What BufferPart leaves, place by place.
use Rattle.std.proofs.Common.{◌≡◌, ℕ, ◌+◌, ◌-◌, ◌<◌, ◌≤◌, Bool, true, false, cond, ◌&&◌, List, ◌++◌, length, take, drop, get_or, is_some, unwrap_or, inl, inr, refl, sym, ap, ◌∙◌, subst, arith, length-append, length-drop, length-take-le, get_or-take, get_or-drop, le-leb, lt-ltb, le-ltb, eq-eqb, ne_eqb, leb, ltb, ltb-false, true≢false, nat_cmp}
use Rattle.std.specs.Prelude.{Option, Some, None}
use Rattle.std.specs.Option.{option_map}
use Rattle.std.specs.BTreeMap.{is_at}
use Rattle.std.proofs.lemmas.Bool.{cases_lt, cases_eq, cond-true, cond-false, and_from, and_left, and_right, lt-leb}
use Rattle.std.proofs.lemmas.List.{get_or_append_left, get_or-append_right}
use Rattle.gl_words.specs.declared.error.GlError.{GlError}
use Rattle.gl_objects.specs.declared.event.Event.TheVariants as ev
use Rattle.gl_objects.specs.declared.named.Named.{Named}
use Rattle.gl_objects.specs.declared.named.Named.TheVariants.{Generated, Object}
use Rattle.gl_objects.specs.View.{ObjectsView}
use Rattle.gl_objects.specs.Table.{named, size_in, size_at}
use Rattle.gl_objects.specs.Store.{part_written, store_of, store_in}
use Rattle.gl_objects.specs.Step.{changed, unless_fault, byte_in}
use Rattle.gl_objects.specs.Laws.{WritesPart, part_byte}
use Rattle.gl_objects.proofs.Tables.{hit_is, hits_itself, named-put}

module _ (store : List ℕ) (offset : ℕ) (bytes : List ℕ) (fits : offset + length bytes ≤ length store) where
  front : length (take offset store) ≡ offset
  front = length-take-le offset store (omega arith)

  part-before : (at : ℕ) → at < offset → get_or (part_written store offset bytes) at 0 ≡ get_or store at 0
  unfolding part_written
  part-before at h =
      get_or_append_left (take offset store) (bytes ++ drop (length bytes) (drop offset store)) 0 at (omega (arith, front))
      ∙ get_or-take offset store at 0 h

  part-inside : (at : ℕ) → offset ≤ at → at < offset + length bytes → get_or (part_written store offset bytes) at 0 ≡ get_or bytes (at - offset) 0
  unfolding part_written
  part-inside at from below =
      get_or-append_right (take offset store) (bytes ++ drop (length bytes) (drop offset store)) offset at 0 front from
      ∙ get_or_append_left bytes (drop (length bytes) (drop offset store)) 0 (at - offset) (omega arith)

  part-behind : (at : ℕ) → offset + length bytes ≤ at → get_or (part_written store offset bytes) at 0 ≡ get_or store at 0
  unfolding part_written
  part-behind at behind =
      get_or-append_right (take offset store) (bytes ++ drop (length bytes) (drop offset store)) offset at 0 front (omega arith)
      ∙ get_or-append_right bytes (drop (length bytes) (drop offset store)) (length bytes) (at - offset) 0 refl (omega arith)
      ∙ get_or-drop (length bytes) (drop offset store) (at - offset - length bytes) 0
      ∙ get_or-drop offset store (length bytes + (at - offset - length bytes)) 0
      ∙ ap (λ (n : ℕ). get_or store n 0) (omega arith)

  pub length-part_written : length (part_written store offset bytes) ≡ length store
  unfolding part_written
  length-part_written =
      let first = length-append (take offset store) (bytes ++ drop (length bytes) (drop offset store)) in
      let second = length-append bytes (drop (length bytes) (drop offset store)) in
      let third = length-drop (length bytes) (drop offset store) in
      let fourth = length-drop offset store in
      omega (arith, front)

  part-each : (at : ℕ) → get_or (part_written store offset bytes) at 0 ≡ cond (leb offset at && ltb at (offset + length bytes)) (get_or bytes (at - offset) 0) (get_or store at 0)
  part-each at =
      let written : ℕ = get_or bytes (at - offset) 0 in
      let old : ℕ = get_or store at 0 in
      elim (cases_lt at offset) [
        | inl before ↦ part-before at before ∙ sym (cond-false (leb offset at && ltb at (offset + length bytes)) written old (and_left (leb offset at) (ltb at (offset + length bytes)) (lt-leb offset at before)))
        | inr from ↦ elim (cases_lt at (offset + length bytes)) [
          | inl below ↦ part-inside at from below ∙ sym (cond-true (leb offset at && ltb at (offset + length bytes)) written old (and_from (leb offset at) (ltb at (offset + length bytes)) (le-leb offset at from) (lt-ltb at (offset + length bytes) below)))
          | inr behind ↦ part-behind at behind ∙ sym (cond-false (leb offset at && ltb at (offset + length bytes)) written old (and_right (leb offset at) (ltb at (offset + length bytes)) (le-ltb at (offset + length bytes) behind)))
        ]
      ]

-- what a name holds is the length of its store
pub size-store : (what : Option (Named (List ℕ))) → unwrap_or (option_map (size_in length) what) 0 ≡ length (store_of what)
size-store None = refl
size-store (Some Generated) = refl
size-store (Some (Object store)) = refl

pub no_fault-parts : (a b : Bool) (x y : GlError) → cond a (cond b (Some x) None) (Some y) ≡ None → (a ≡ true) × (b ≡ false)
no_fault-parts true true x y h = absurd (true≢false (ap is_some h))
no_fault-parts true false x y h = (refl, refl)
no_fault-parts false b x y h = absurd (true≢false (ap is_some h))

module _ (objects : ObjectsView) (name offset : ℕ) (bytes : List ℕ) (fits : offset + length bytes ≤ length (store_in objects.buffers name)) where
  abbrev new : List ℕ
  new = part_written (store_in objects.buffers name) offset bytes

  stored : (other at : ℕ) → byte_in (changed objects (ev.BufferPart name offset bytes)) other at ≡ get_or (store_of (cond (is_at (nat_cmp other) name) (Some (Object new)) (named objects.buffers other))) at 0
  stored other at = ap (λ (what : Option (Named (List ℕ))). get_or (store_of what) at 0) (named-put name (Object new) objects.buffers other)

  at_name : (at : ℕ) → byte_in (changed objects (ev.BufferPart name offset bytes)) name at ≡ part_byte objects name offset bytes name at
  at_name at =
      let inside = leb offset at && ltb at (offset + length bytes) in
      stored name at
      ∙ ap (λ b. get_or (store_of (cond b (Some (Object new)) (named objects.buffers name))) at 0) (hits_itself name)
      ∙ part-each (store_in objects.buffers name) offset bytes fits at
      ∙ sym (ap (λ b. cond (b && inside) (get_or bytes (at - offset) 0) (byte_in objects name at)) (eq-eqb name name refl))

  misses : (other : ℕ) → (other ≡ name → ⊥) → is_at (nat_cmp other) name ≡ false
  misses other apart =
      elim (is_at (nat_cmp other) name) as (λ b. is_at (nat_cmp other) name ≡ b → b ≡ false) [
        | true ↦ λ hit. absurd (apart (hit_is other name hit))
        | false ↦ λ _. refl
      ] refl

  at_other : (other at : ℕ) → (other ≡ name → ⊥) → byte_in (changed objects (ev.BufferPart name offset bytes)) other at ≡ part_byte objects name offset bytes other at
  at_other other at apart =
      let inside = leb offset at && ltb at (offset + length bytes) in
      stored other at
      ∙ ap (λ b. get_or (store_of (cond b (Some (Object new)) (named objects.buffers other))) at 0) (misses other apart)
      ∙ sym (ap (λ b. cond (b && inside) (get_or bytes (at - offset) 0) (byte_in objects other at)) (ne_eqb other name apart))

  each_byte : (other at : ℕ) → byte_in (changed objects (ev.BufferPart name offset bytes)) other at ≡ part_byte objects name offset bytes other at
  each_byte other at =
      elim (cases_eq other name) [
        | inl same ↦ (let P : ℕ → Type 0 = λ n. byte_in (changed objects (ev.BufferPart name offset bytes)) n at ≡ part_byte objects name offset bytes n at in subst P (sym same) (at_name at))
        | inr apart ↦ at_other other at apart
      ]

pub writes_part : (objects : ObjectsView) (name offset : ℕ) (bytes : List ℕ) → WritesPart objects name offset bytes
writes_part objects name offset bytes no_fault other at =
    let parts = no_fault-parts _ _ _ _ no_fault in
    let size = size-store (named objects.buffers name) in
    let least : offset + length bytes ≤ size_at length objects.buffers name = ltb-false _ _ parts.1 in
    let fits : offset + length bytes ≤ length (store_in objects.buffers name) = omega (arith, size, least) in
    ap (λ fault. byte_in (unless_fault fault (changed objects (ev.BufferPart name offset bytes)) objects) other at) no_fault
    ∙ each_byte objects name offset bytes fits other at
