-- What the gets reply where they ask for no number of tracked state: what the rows of private state give.
use Rattle.std.proofs.Common.{◌≡◌, ◌≢◌, ℕ, ℤ, Option, None, refl, sym, ap}
use Rattle.std.specs.Option.{option_or}
use Rattle.gl_words.specs.declared.call.Call.{Call}
use Rattle.gl_words.specs.declared.call.Call.TheVariants.{GenBuffers, GenTextures, GetError, GetFixedv, GetIntegerv, GetPointerv, IsBuffer, IsEnabled, IsTexture}
use Rattle.gl_tracked.specs.Gets.{number_beside}
use Rattle.gl_tracked.specs.Step.{number_asked}
use Rattle.driver_trait.specs.Reply.{Nothing}
use Rattle.gl_objects.specs.declared.reply.EventReply.{EventReply}
use Rattle.gl_state.specs.Gets.{alone, capability_rows, integers_asked, limit_rows, list_beside, rectangle_rows, setting_rows, truth_asked}
use Rattle.gl_state.specs.Private.{PrivateView}
use Rattle.gl_state.specs.Step.{numbers_replied, private_reply}

-- a call is other than those that reply from private state, or what objects give back; own
pub record IsOther (call : Call) : Type 0 where
  pub buffers : (n : ℤ) (names : ℕ) → call ≢ GenBuffers n names
  pub textures : (n : ℤ) (names : ℕ) → call ≢ GenTextures n names
  pub error : call ≢ GetError
  pub fixed : (pname params : ℕ) → call ≢ GetFixedv pname params
  pub integers : (pname params : ℕ) → call ≢ GetIntegerv pname params
  pub buffer : (buffer : ℕ) → call ≢ IsBuffer buffer
  pub truth : (cap : ℕ) → call ≢ IsEnabled cap
  pub texture : (texture : ℕ) → call ≢ IsTexture texture

module _ (p : PrivateView) (event : EventReply) where
  integers_of : (pname params : ℕ) → number_asked p.tracked (GetIntegerv pname params) ≡ None
      → numbers_replied (option_or (alone (number_beside (setting_rows p) pname)) (option_or (alone (number_beside limit_rows pname)) (list_beside (rectangle_rows p) pname)))
      ≡ private_reply None p (GetIntegerv pname params) event
  unfolding number_asked integers_asked
  integers_of pname params unknown =
      ap (λ (o : Option ℤ). numbers_replied (option_or (alone o) (option_or (alone (number_beside (setting_rows p) pname)) (option_or (alone (number_beside limit_rows pname)) (list_beside (rectangle_rows p) pname))))) (sym unknown)

  -- GetIntegerv replies a setting, else a limit, else a rectangle
  pub integers_replied : (call : Call) → number_asked p.tracked call ≡ None → (pname params : ℕ) → call ≡ GetIntegerv pname params
      → numbers_replied (option_or (alone (number_beside (setting_rows p) pname)) (option_or (alone (number_beside limit_rows pname)) (list_beside (rectangle_rows p) pname)))
      ≡ private_reply None p call event
  integers_replied call unknown pname params is = rw is (integers_of pname params (rw is at unknown))

  truth_of : (cap : ℕ) → number_asked p.tracked (IsEnabled cap) ≡ None → numbers_replied (alone (number_beside (capability_rows p) cap)) ≡ private_reply None p (IsEnabled cap) event
  unfolding number_asked truth_asked
  truth_of cap unknown = ap (λ (o : Option ℤ). numbers_replied (alone (option_or o (number_beside (capability_rows p) cap)))) (sym unknown)

  -- IsEnabled replies whether a capability is enabled
  pub truth_replied : (call : Call) → number_asked p.tracked call ≡ None → (cap : ℕ) → call ≡ IsEnabled cap → numbers_replied (alone (number_beside (capability_rows p) cap)) ≡ private_reply None p call event
  truth_replied call unknown cap is = rw is (truth_of cap (rw is at unknown))

  -- all others reply nothing
  pub nothing_replied : (call : Call) → number_asked p.tracked call ≡ None → IsOther call → Nothing ≡ private_reply None p call event
  unfolding number_asked
  nothing_replied (GenBuffers n names) unknown other = absurd (other.buffers n names refl)
  nothing_replied (GenTextures n names) unknown other = absurd (other.textures n names refl)
  nothing_replied GetError unknown other = absurd (other.error refl)
  nothing_replied (GetFixedv pname params) unknown other = absurd (other.fixed pname params refl)
  nothing_replied (GetIntegerv pname params) unknown other = absurd (other.integers pname params refl)
  nothing_replied (GetPointerv pname params) unknown other = ap (λ (o : Option ℤ). numbers_replied (alone o)) (sym unknown)
  nothing_replied (IsBuffer buffer) unknown other = absurd (other.buffer buffer refl)
  nothing_replied (IsEnabled capability) unknown other = absurd (other.truth capability refl)
  nothing_replied (IsTexture texture) unknown other = absurd (other.texture texture refl)
  nothing_replied _ unknown other = refl
