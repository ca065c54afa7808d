-- Deletions of textures, name after name: what one more name leaves of the bindings, and none.
use Rattle.std.proofs.Common.{◌≡◌, ℕ, List, [], ◌∷◌, ◌++◌, sym, ap}
use Rattle.gl_tracked.proofs.Deleting.{bindings_more, bindings_none}
use Rattle.gl_state.specs.declared.settings.Settings.{Settings}
use Rattle.gl_state.specs.Settings.{without_textures}

pub without_textures-more : (names : List ℕ) (name : ℕ) (settings : Settings) → without_textures (name ∷ []) (without_textures names settings) ≡ without_textures (names ++ name ∷ []) settings
unfolding without_textures
without_textures-more names name settings = ap (λ (bindings : List ℕ). record settings { bindings = bindings }) (bindings_more names name settings.bindings)

pub without_textures-none : (settings : Settings) → settings ≡ without_textures [] settings
unfolding without_textures
without_textures-none settings = ap (λ (bindings : List ℕ). record settings { bindings = bindings }) (sym (bindings_none settings.bindings))
