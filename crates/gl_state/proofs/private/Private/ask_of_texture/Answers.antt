use Rattle.std.proofs.Common.{ℤ, sym, subst, rules, w32, SFits}
use Rattle.std.proofs.lemmas.Int.{to_z-of_z}
use Rattle.texture_units.specs.Texture.{IsSide}
use Rattle.gl_objects.specs.Sampling.{IsParameter}
use Rattle.gl_tracked.specs.Images.{side_of}
use Rattle.gl_state.proofs.Textures.{image_has_sides, parameter_is}
use Rattle.gl_state.proofs.private.Private.ask_of_texture.Goals as goal

pub returns-in-TexImage2D-clause-named : goal.returns-in-TexImage2D-clause-named
returns-in-TexImage2D-clause-named c =
    let of = c.in-TexImage2D in
    let width : SFits w32 of.width = search rules in
    let height : SFits w32 of.height = search rules in
    let sides = image_has_sides c.args.self.now.tracked of.target of.level of.internalformat of.width of.height of.border of.format of.kind of.pixels (rw of.is at c.requires.no_fault) in
    let wide = subst (λ (side : ℤ). IsSide (side_of side)) (sym (to_z-of_z w32 of.width width)) (sides.0) in
    let high = subst (λ (side : ℤ). IsSide (side_of side)) (sym (to_z-of_z w32 of.height height)) (sides.1) in
    (rw c.side_of.ensures.side wide, rw c.side_of-in-TexImage2D.ensures.side high)

pub returns-in-TexParameteri-clause-named : goal.returns-in-TexParameteri-clause-named
returns-in-TexParameteri-clause-named c =
    let of = c.in-TexParameteri in
    let param : SFits w32 of.param = search rules in
    subst (λ (value : ℤ). IsParameter of.pname value) (sym (to_z-of_z w32 of.param param))
    (parameter_is c.args.self.now.tracked of.target of.pname of.param (rw of.is at c.requires.no_fault))
