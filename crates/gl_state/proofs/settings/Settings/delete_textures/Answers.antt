use Rattle.std.proofs.Common.{◌≡◌, ℕ, List, [], ◌∷◌, ◌++◌, sym, ap, ◌∙◌, arith}
use Rattle.gl_tracked.specs.Names.{names_at}
use Rattle.gl_state.specs.Settings.{without_textures}
use Rattle.gl_tracked.proofs.Deleting.{names_at-more, names_at-none}
use Rattle.gl_state.proofs.Bindings.{without_textures-more, without_textures-none}
use Rattle.gl_state.proofs.settings.Settings.delete_textures.Goals as goal

pub loop-number-init : goal.loop-number-init
loop-number-init g c =
    let memory = g.M.Memory.segments c.args.memory.now in
    without_textures-none c.args.self.now ∙ ap (λ (names : List ℕ). without_textures names c.args.self.now) (sym (names_at-none memory c.args.names))

pub loop-number-preserved : goal.loop-number-preserved
loop-number-preserved g c =
    let memory = g.M.Memory.segments c.args.memory.now in
    let so_far = names_at memory c.args.names c.loop-number.number in
    c.delete_texture.ensures
    ∙ ap (without_textures (c.name_at.result ∷ [])) c.loop-number.invariant
    ∙ without_textures-more so_far c.name_at.result c.args.self.now
    ∙ ap (λ (name : ℕ). without_textures (so_far ++ name ∷ []) c.args.self.now) c.name_at.ensures
    ∙ ap (λ (names : List ℕ). without_textures names c.args.self.now) (sym (names_at-more memory c.args.names c.loop-number.number))

pub returns : goal.returns
returns g c =
    let all : c.loop-number.number ≡ c.args.count = omega arith in
    c.loop-number.invariant ∙ ap (λ (n : ℕ). without_textures (names_at (g.M.Memory.segments c.args.memory.now) c.args.names n) c.args.self.now) all
