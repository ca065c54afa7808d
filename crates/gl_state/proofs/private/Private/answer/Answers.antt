use Rattle.std.proofs.Common.{◌∙◌}
use Rattle.gl_state.proofs.Getting.{integers_replied, nothing_replied, truth_replied}
use Rattle.gl_state.proofs.private.Private.answer.Goals as goal

pub returns-in-GetIntegerv : goal.returns-in-GetIntegerv
returns-in-GetIntegerv c =
    let get = c.in-GetIntegerv in
    c.integers.ensures ∙ integers_replied c.args.self.now c.args.event.now c.args.call.now c.requires.unknown get.pname get.params get.is

pub returns-in-IsEnabled : goal.returns-in-IsEnabled
returns-in-IsEnabled c =
    c.capability.ensures ∙ truth_replied c.args.self.now c.args.event.now c.args.call.now c.requires.unknown c.in-IsEnabled.cap c.in-IsEnabled.is

pub returns-in_default : goal.returns-in_default
returns-in_default c =
    let other = c.in_default in
    nothing_replied c.args.self.now c.args.event.now c.args.call.now c.requires.unknown
    (record {
      buffers = other.not-GenBuffers;
      textures = other.not-GenTextures;
      error = other.not-GetError;
      fixed = other.not-GetFixedv;
      integers = other.not-GetIntegerv;
      buffer = other.not-IsBuffer;
      truth = other.not-IsEnabled;
      texture = other.not-IsTexture;
    })
