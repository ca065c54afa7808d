use Rattle.std.proofs.Common.{◌+◌, ◌≤◌, length, is_some, ap, ◌∙◌, arith}
use Rattle.gl_objects.specs.declared.named.Named.TheVariants.{Object}
use Rattle.gl_objects.specs.Store.{part_written, store_in}
use Rattle.gl_objects.specs.Table.{named, object_in, put, total}
use Rattle.gl_objects.proofs.Tables.{named_there, put-set_value, total-put}
use Rattle.gl_objects.proofs.Parts.{length-part_written, size-store}
use Rattle.gl_objects.proofs.UsedNames.{AreUsed-alike, AreUsed-put}
use Rattle.gl_objects.proofs.table.Table+Store.write_part.Goals as goal

pub invariant_of-self : goal.invariant_of-self
invariant_of-self c =
    let entries = c.self.inside.entries.entries in
    let old = store_in entries c.args.name in
    let what = Object (part_written old c.args.offset c.args.bytes.now) in
    let there = named_there (named entries c.args.name) (ap (λ table. is_some (object_in table c.args.name)) c.self.view_is ∙ c.requires.there) in
    let ordered = c.len-ordered.ensures.ordered in
    let same = ap (λ table. length (store_in table c.args.name)) c.self.view_is in
    let fits : c.args.offset + length c.args.bytes.now ≤ length old = omega (arith, same, c.requires.within) in
    let is = c.write_at.ensures ∙ put-set_value c.args.name what entries ordered there in
    let left = ap (total length) is in
    let used = AreUsed-alike _ _ c.self.inside.full is (AreUsed-put c.args.name what entries c.self.inside.full c.self.invariant.1.1) in
    let sum = total-put length c.args.name what entries ordered in
    (omega (arith, left, sum, length-part_written old c.args.offset c.args.bytes.now fits, size-store (named entries c.args.name), c.self.invariant.0), (c.self.invariant.1.0, used))

pub returns : goal.returns
returns c =
    let entries = c.self.inside.entries.entries in
    let what = Object (part_written (store_in entries c.args.name) c.args.offset c.args.bytes.now) in
    let there = named_there (named entries c.args.name) (ap (λ table. is_some (object_in table c.args.name)) c.self.view_is ∙ c.requires.there) in
    c.write_at.ensures
    ∙ put-set_value c.args.name what entries c.len-ordered.ensures.ordered there
    ∙ ap (λ table. put c.args.name (Object (part_written (store_in table c.args.name) c.args.offset c.args.bytes.now)) table) c.self.view_is
