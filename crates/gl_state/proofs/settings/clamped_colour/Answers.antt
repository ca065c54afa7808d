use Rattle.std.proofs.Common.{refl, rules, w32, SFits}
use Rattle.fixed_transform.proofs.Matrices.{cons_four}
use Rattle.gl_state.specs.Settings.{clamped_to_one}
use Rattle.gl_state.proofs.Clamping.{given}
use Rattle.gl_state.proofs.settings.clamped_colour.Goals as goal

pub returns-clause-colour : goal.returns-clause-colour
returns-clause-colour c =
    let red : SFits w32 c.clamped_to_one.result = search rules in
    let green : SFits w32 c.clamped_to_one-2.result = search rules in
    let blue : SFits w32 c.clamped_to_one-3.result = search rules in
    let alpha : SFits w32 c.clamped_to_one-4.result = search rules in
    cons_four (given clamped_to_one c.args.red c.clamped_to_one.result c.ranges.red red c.clamped_to_one.ensures.clamped)
    (given clamped_to_one c.args.green c.clamped_to_one-2.result c.ranges.green green c.clamped_to_one-2.ensures.clamped)
    (given clamped_to_one c.args.blue c.clamped_to_one-3.result c.ranges.blue blue c.clamped_to_one-3.ensures.clamped)
    (given clamped_to_one c.args.alpha c.clamped_to_one-4.result c.ranges.alpha alpha c.clamped_to_one-4.ensures.clamped)
    refl
