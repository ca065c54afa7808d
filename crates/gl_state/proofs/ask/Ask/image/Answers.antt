use Rattle.std.proofs.Common.{ℕ, ◌*◌, ap, ◌∙◌}
use Rattle.gl_state.proofs.Textures.{image_is_no_other, image_is_whole, rows_are_whole}
use Rattle.gl_state.proofs.ask.Ask.image.Goals as goal

pub unreachable-requires : goal.unreachable-requires
unreachable-requires g c = image_is_no_other c.args.self.now c.requires.image c.in_default.not-Image c.in_default.not-ImagePart

pub returns-in_ok-image_uploaded-in-Image-clause-legal : goal.returns-in_ok-image_uploaded-in-Image-clause-legal
returns-in_ok-image_uploaded-in-Image-clause-legal g c =
    let of = c.in-Image in
    let bytes = c.in_ok-image_uploaded-in-Image.field-0 in
    image_is_whole of.format of.width of.height bytes (rw of.is at c.requires.named)
    (c.in_ok-image_uploaded-in-Image.ensures.many ∙ ap (λ (run : ℕ). of.height * run) c.run_of.ensures.run)

pub returns-in_ok-rows_from-in-ImagePart-clause-legal : goal.returns-in_ok-rows_from-in-ImagePart-clause-legal
returns-in_ok-rows_from-in-ImagePart-clause-legal g c =
    let of = c.in-ImagePart in
    let bytes = c.in_ok-rows_from-in-ImagePart.field-0 in (
      rw of.is at c.requires.named,
      rows_are_whole of.format of.width of.height bytes (c.in_ok-rows_from-in-ImagePart.ensures.many ∙ ap (λ (run : ℕ). of.height * run) c.run_of-in-ImagePart.ensures.run),
    )
