use Rattle.std.proofs.Common.{ℤ, is_some, unwrap_or, refl, ap, ◌∙◌, w32}
use Rattle.std.specs.Map.{set_value}
use Rattle.std.specs.BTreeMap.{is_at}
use Rattle.std.specs.Ordering.{nat_cmp}
use Rattle.std.proofs.lemmas.Int.{to_z-of_z}
use Rattle.gl_objects.specs.declared.named.Named.TheVariants.{Object}
use Rattle.gl_objects.specs.Image.{new_texture, image_size, with_parameter_set}
use Rattle.gl_objects.specs.Table.{object_in, put}
use Rattle.gl_objects.proofs.InPlace.{changed_in_place, kept_in_place}
use Rattle.gl_objects.proofs.texture_table.Table+TextureObject.set_parameter.Goals as goal

pub invariant_of-self : goal.invariant_of-self
invariant_of-self c =
    let entries = c.self.inside.entries.entries in
    let old = unwrap_or (object_in entries c.args.name) new_texture in
    let what = with_parameter_set c.args.pname c.args.value old in
    let there = ap (λ table. is_some (object_in table c.args.name)) c.self.view_is ∙ c.requires.there in
    let is = c.set_parameter_at.ensures ∙ ap (λ (value : ℤ). set_value (is_at (nat_cmp c.args.name)) entries (Object (with_parameter_set c.args.pname value old))) (to_z-of_z w32 c.args.value c.ranges.value) in
    kept_in_place image_size c.args.name new_texture what entries _ c.len-ordered.ensures.ordered there is _ c.self.inside.full refl c.self.invariant

pub returns : goal.returns
returns c =
    let entries = c.self.inside.entries.entries in
    let old = unwrap_or (object_in entries c.args.name) new_texture in
    let what = with_parameter_set c.args.pname c.args.value old in
    let there = ap (λ table. is_some (object_in table c.args.name)) c.self.view_is ∙ c.requires.there in
    let is = c.set_parameter_at.ensures ∙ ap (λ (value : ℤ). set_value (is_at (nat_cmp c.args.name)) entries (Object (with_parameter_set c.args.pname value old))) (to_z-of_z w32 c.args.value c.ranges.value) in
    changed_in_place image_size c.args.name new_texture what entries _ c.len-ordered.ensures.ordered there is
    ∙ ap (λ table. put c.args.name (Object (with_parameter_set c.args.pname c.args.value (unwrap_or (object_in table c.args.name) new_texture))) table) c.self.view_is
