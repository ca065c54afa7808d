use Rattle.std.proofs.Common.{◌≡◌, ℕ, List, [], ◌∷◌, ◌++◌, sym, ap, ◌∙◌, arith}
use Rattle.gl_tracked.specs.Names.{names_at, without_buffers}
use Rattle.gl_tracked.proofs.Deleting.{names_at-more, names_at-none, without_buffers-more, without_buffers-none}
use Rattle.gl_tracked.proofs.tracked.Tracked.delete_buffers.Goals as goal

pub loop-number-init : goal.loop-number-init
loop-number-init g c =
    let memory = g.M.Memory.segments c.args.memory.now in
    without_buffers-none c.args.self.now ∙ ap (λ (names : List ℕ). without_buffers names c.args.self.now) (sym (names_at-none memory c.args.names))

pub loop-number-preserved : goal.loop-number-preserved
loop-number-preserved g c =
    let memory = g.M.Memory.segments c.args.memory.now in
    let so_far = names_at memory c.args.names c.loop-number.number in
    c.delete_buffer.ensures
    ∙ ap (without_buffers (c.name_at.result ∷ [])) c.loop-number.invariant
    ∙ without_buffers-more so_far c.name_at.result c.args.self.now
    ∙ ap (λ (name : ℕ). without_buffers (so_far ++ name ∷ []) c.args.self.now) c.name_at.ensures
    ∙ ap (λ (names : List ℕ). without_buffers names c.args.self.now) (sym (names_at-more memory c.args.names c.loop-number.number))

pub returns : goal.returns
returns g c =
    let all : c.loop-number.number ≡ c.args.count = omega arith in
    c.loop-number.invariant ∙ ap (λ (n : ℕ). without_buffers (names_at (g.M.Memory.segments c.args.memory.now) c.args.names n) c.args.self.now) all
