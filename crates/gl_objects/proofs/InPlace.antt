-- An object of a table that is changed where it stands, into one of as many bytes.
use Rattle.std.proofs.Common.{◌≡◌, ℕ, ◌≤◌, true, List, is_some, unwrap_or, refl, sym, ap, ◌∙◌, arith, nat_cmp, true≢false}
use Rattle.std.specs.Prelude.{Option, Some, None}
use Rattle.std.specs.Option.{option_map}
use Rattle.std.specs.List.Sorted.{IsStrictlySortedBy}
use Rattle.std.specs.Map.{keys_of, set_value}
use Rattle.std.specs.BTreeMap.{is_at}
use Rattle.gl_objects.specs.declared.named.Named.{Named}
use Rattle.gl_objects.specs.declared.named.Named.TheVariants.{Generated, Object}
use Rattle.gl_objects.specs.Table.{named, object_of, object_in, put, size_in, total, AreUsed}
use Rattle.gl_objects.proofs.Tables.{named_there, put-set_value, total-put}
use Rattle.gl_objects.proofs.UsedNames.{AreUsed-alike, AreUsed-put}

module _ {T : Type 0} (size : T → ℕ) where
  -- what a name holds is what its object holds
  pub size-object : (empty : T) (what : Option (Named T)) → is_some (object_of what) ≡ true → unwrap_or (option_map (size_in size) what) 0 ≡ size (unwrap_or (object_of what) empty)
  size-object empty None there = absurd (true≢false (sym there))
  size-object empty (Some Generated) there = absurd (true≢false (sym there))
  size-object empty (Some (Object held)) there = refl

  module _ (name : ℕ) (empty what : T) (entries new : List (ℕ × Named T)) (ordered : IsStrictlySortedBy nat_cmp (keys_of entries)) (there : is_some (object_in entries name) ≡ true) (is : new ≡ set_value (is_at (nat_cmp name)) entries (Object what)) where
    -- the table has the new object
    pub changed_in_place : new ≡ put name (Object what) entries
    changed_in_place = is ∙ put-set_value name (Object what) entries ordered (named_there (named entries name) there)

    -- and what is kept of it holds still
    pub kept_in_place : (held full : ℕ) → size what ≡ size (unwrap_or (object_in entries name) empty) → (held ≡ total size entries) × ((held ≤ 67108864) × AreUsed entries full)
        → (held ≡ total size new) × ((held ≤ 67108864) × AreUsed new full)
    kept_in_place held full alike before =
        let left = ap (total size) changed_in_place in
        let sum = total-put size name (Object what) entries ordered in
        let here = size-object empty (named entries name) there in
        (omega (arith, left, sum, here, alike, before.0), (before.1.0, AreUsed-alike _ _ full changed_in_place (AreUsed-put name (Object what) entries full before.1.1)))
