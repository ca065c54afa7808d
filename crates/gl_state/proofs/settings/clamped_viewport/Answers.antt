use Rattle.std.proofs.Common.{refl, rules, w32, SFits}
use Rattle.fixed_transform.proofs.Matrices.{cons_four}
use Rattle.gl_state.specs.Settings.{clamped_origin, clamped_side}
use Rattle.gl_state.proofs.Clamping.{given}
use Rattle.gl_state.proofs.settings.clamped_viewport.Goals as goal

pub returns-clause-viewport : goal.returns-clause-viewport
returns-clause-viewport c =
    let x : SFits w32 c.clamped_origin.result = search rules in
    let y : SFits w32 c.clamped_origin-2.result = search rules in
    let width : SFits w32 c.clamped_side.result = search rules in
    let height : SFits w32 c.clamped_side-2.result = search rules in
    cons_four (given clamped_origin c.args.x c.clamped_origin.result c.ranges.x x c.clamped_origin.ensures.clamped)
    (given clamped_origin c.args.y c.clamped_origin-2.result c.ranges.y y c.clamped_origin-2.ensures.clamped)
    (given clamped_side c.args.width c.clamped_side.result c.ranges.width width c.clamped_side.ensures.clamped)
    (given clamped_side c.args.height c.clamped_side-2.result c.ranges.height height c.clamped_side-2.ensures.clamped)
    refl
