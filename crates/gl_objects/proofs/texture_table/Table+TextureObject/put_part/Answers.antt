use Rattle.std.proofs.Common.{unwrap_or, ap, ◌∙◌}
use Rattle.texture_units.specs.Texture.{rectangle_of}
use Rattle.gl_objects.specs.declared.named.Named.TheVariants.{Object}
use Rattle.gl_objects.specs.Image.{new_texture, image_of, image_size, part_of_image_fault, with_image_part}
use Rattle.gl_objects.specs.Table.{object_in, put}
use Rattle.gl_objects.proofs.TexelBytes.{image_size-with_image_part, texture_there}
use Rattle.gl_objects.proofs.InPlace.{changed_in_place, kept_in_place}
use Rattle.gl_objects.proofs.texture_table.Table+TextureObject.put_part.Goals as goal

pub invariant_of-self : goal.invariant_of-self
invariant_of-self c =
    let entries = c.self.inside.entries.entries in
    let part = rectangle_of c.args.format c.args.width c.args.height c.args.bytes.now in
    let old = unwrap_or (object_in entries c.args.name) new_texture in
    let what = with_image_part c.args.x c.args.y part old in
    let there = texture_there (object_in entries c.args.name) c.args.x c.args.y part (ap (λ table. part_of_image_fault (image_of (object_in table c.args.name)) c.args.x c.args.y part) c.self.view_is ∙ c.requires.fits) in
    kept_in_place image_size c.args.name new_texture what entries _ c.len-ordered.ensures.ordered there c.put_part_at.ensures _ c.self.inside.full (image_size-with_image_part c.args.x c.args.y part old) c.self.invariant

pub returns : goal.returns
returns c =
    let entries = c.self.inside.entries.entries in
    let part = rectangle_of c.args.format c.args.width c.args.height c.args.bytes.now in
    let what = with_image_part c.args.x c.args.y part (unwrap_or (object_in entries c.args.name) new_texture) in
    let there = texture_there (object_in entries c.args.name) c.args.x c.args.y part (ap (λ table. part_of_image_fault (image_of (object_in table c.args.name)) c.args.x c.args.y part) c.self.view_is ∙ c.requires.fits) in
    changed_in_place image_size c.args.name new_texture what entries _ c.len-ordered.ensures.ordered there c.put_part_at.ensures
    ∙ ap (λ table. put c.args.name (Object (with_image_part c.args.x c.args.y part (unwrap_or (object_in table c.args.name) new_texture))) table) c.self.view_is
