use Rattle.gl_state.proofs.settings.Settings.set.Goals as goal

pub returns-in-AlphaFuncx-clause-set : goal.returns-in-AlphaFuncx-clause-set
returns-in-AlphaFuncx-clause-set g c = c.set_tests.ensures.set c.args.tracked.now (g.M.Memory.segments c.args.memory.now)

pub returns-in-ClearColorx-clause-set : goal.returns-in-ClearColorx-clause-set
returns-in-ClearColorx-clause-set g c = c.set_frame.ensures.set c.args.tracked.now (g.M.Memory.segments c.args.memory.now)

pub returns-in-Color4x-clause-set : goal.returns-in-Color4x-clause-set
returns-in-Color4x-clause-set g c = c.set_current.ensures.set c.args.tracked.now (g.M.Memory.segments c.args.memory.now)

pub returns-in-CullFace-clause-set : goal.returns-in-CullFace-clause-set
returns-in-CullFace-clause-set g c = c.set_primitives.ensures.set c.args.tracked.now (g.M.Memory.segments c.args.memory.now)
