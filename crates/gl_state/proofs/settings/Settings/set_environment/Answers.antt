use Rattle.std.proofs.lemmas.List.Elements.{All-set}
use Rattle.fragment_ops.specs.State.{AreWithinOne}
use Rattle.gl_state.proofs.settings.Settings.set_environment.Goals as goal

pub returns-in-TexEnvxv-clause-clamped : goal.returns-in-TexEnvxv-clause-clamped
returns-in-TexEnvxv-clause-clamped g c are =
    let environments = All-set AreWithinOne c.args.self.now.environment_colour c.place_of_unit-place.result c.colour_from.result c.colour_from.ensures.within are.environments in
    assumption
