-- Settings stay such as calls accept: what a call without an error sets has passed its tests.
use Rattle.std.proofs.Common.{◌≡◌, ℕ, ℤ, pos, true, List, [], ◌∷◌, None, refl, eqb}
use Rattle.std.proofs.lemmas.Bool.{and_parts}
use Rattle.std.proofs.lemmas.List.Elements.{All-cons, All-contains, All-nil, All-set}
use Rattle.std.specs.Prelude.{All}
use Rattle.gl_words.specs.declared.call.Call.{Call}
use Rattle.gl_words.specs.declared.call.Call.TheVariants.{AlphaFuncx, BindTexture, BlendFunc, ClearColorx, ClearDepthx, Color4x, ColorMask, CullFace, DeleteTextures, DepthFunc, DepthMask, DepthRangex, Disable, Enable, FrontFace, MultiTexCoord4x, Normal3x, Scissor, ShadeModel, TexEnvi, TexEnvxv, Viewport}
use Rattle.gl_memory.specs.Segment.{Segment}
use Rattle.fragment_ops.specs.State.{IsOneOf, IsRectangle}
use Rattle.gl_tracked.specs.declared.tracked.Tracked.{Tracked}
use Rattle.gl_tracked.specs.Count.{count_of}
use Rattle.gl_tracked.specs.Enumerants.{dest_factors, environment_modes, source_factors}
use Rattle.gl_tracked.specs.Fault.{fault_of, is_among, mode_fault, size_is_among}
use Rattle.gl_tracked.proofs.Faults.{extent_has_sides, first_passed, passed, size_among-contains}
use Rattle.gl_state.specs.declared.settings.Settings.{Settings}
use Rattle.gl_state.specs.Settings.{AreAccepted, mode_numbers, place_of_unit, without_textures}
use Rattle.gl_state.specs.Step.{settings_set_by}

-- the number of a mode is one of those of modes
abbrev IsMode : ℤ → Type 0
IsMode mode = IsOneOf mode_numbers (count_of mode)

are_modes : All IsMode environment_modes
are_modes =
    All-cons IsMode (pos 0x0104) (pos 0x0BE2 ∷ pos 0x1E01 ∷ pos 0x2100 ∷ pos 0x2101 ∷ []) refl
    (All-cons IsMode (pos 0x0BE2) (pos 0x1E01 ∷ pos 0x2100 ∷ pos 0x2101 ∷ []) refl
    (All-cons IsMode (pos 0x1E01) (pos 0x2100 ∷ pos 0x2101 ∷ []) refl
    (All-cons IsMode (pos 0x2100) (pos 0x2101 ∷ []) refl
    (All-cons IsMode (pos 0x2101) [] refl (All-nil IsMode)))))

mode_accepted : (param : ℤ) → size_is_among environment_modes param ≡ true → IsOneOf mode_numbers (count_of param)
mode_accepted param known = All-contains IsMode environment_modes param are_modes (size_among-contains environment_modes param known)

-- where no error is found, TexEnvi has such a mode
mode_passed : (tracked : Tracked) (target pname : ℕ) (param : ℤ) → fault_of tracked (TexEnvi target pname param) ≡ None → IsOneOf mode_numbers (count_of param)
unfolding fault_of mode_fault
mode_passed tracked target pname param h =
    let known = first_passed (eqb target 0x2300) _ _ h in
    let named = first_passed (eqb pname 0x2200) _ _ (known.1) in
    let mode = first_passed (size_is_among environment_modes param) _ _ (named.1) in
    mode_accepted param (mode.0)

-- settings stay such as calls accept
pub settings_set_by-accepted : (tracked : Tracked) (settings : Settings) (call : Call) (memory : List Segment) → fault_of tracked call ≡ None → AreAccepted settings → AreAccepted (settings_set_by tracked settings call memory)
unfolding settings_set_by fault_of is_among without_textures
settings_set_by-accepted tracked settings (AlphaFuncx func reference) memory h are =
    let is = passed _ _ h in assumption
settings_set_by-accepted tracked settings (BindTexture target texture) memory h are = assumption
settings_set_by-accepted tracked settings (BlendFunc sfactor dfactor) memory h are =
    let both = and_parts (is_among source_factors sfactor) (is_among dest_factors dfactor) (passed _ _ h) in
    let source = both.0 in
    let dest = both.1 in
    assumption
settings_set_by-accepted tracked settings (ClearColorx red green blue alpha) memory h are = assumption
settings_set_by-accepted tracked settings (ClearDepthx depth) memory h are = assumption
settings_set_by-accepted tracked settings (Color4x red green blue alpha) memory h are = assumption
settings_set_by-accepted tracked settings (ColorMask red green blue alpha) memory h are = assumption
settings_set_by-accepted tracked settings (CullFace mode) memory h are =
    let is = passed _ _ h in assumption
settings_set_by-accepted tracked settings (DeleteTextures n names) memory h are = assumption
settings_set_by-accepted tracked settings (DepthFunc func) memory h are =
    let is = passed _ _ h in assumption
settings_set_by-accepted tracked settings (DepthMask flag) memory h are = assumption
settings_set_by-accepted tracked settings (DepthRangex near far) memory h are = assumption
settings_set_by-accepted tracked settings (Disable cap) memory h are = assumption
settings_set_by-accepted tracked settings (Enable cap) memory h are = assumption
settings_set_by-accepted tracked settings (FrontFace mode) memory h are =
    let is = passed _ _ h in assumption
settings_set_by-accepted tracked settings (MultiTexCoord4x target s t r q) memory h are = assumption
settings_set_by-accepted tracked settings (Normal3x nx ny nz) memory h are = assumption
settings_set_by-accepted tracked settings (Scissor x y width height) memory h are =
    let sides = extent_has_sides width height (passed _ _ h) in
    let is : IsRectangle (x ∷ y ∷ width ∷ height ∷ []) = record { width = sides.0; height = sides.1 } in
    assumption
settings_set_by-accepted tracked settings (ShadeModel mode) memory h are =
    let is = passed _ _ h in assumption
settings_set_by-accepted tracked settings (TexEnvi target pname param) memory h are =
    let modes =
    All-set (IsOneOf mode_numbers) settings.environment_mode (place_of_unit tracked.active) (count_of param) (mode_passed tracked target pname param h) are.environments in
    assumption
settings_set_by-accepted tracked settings (TexEnvxv target pname params) memory h are = assumption
settings_set_by-accepted tracked settings (Viewport x y width height) memory h are = assumption
settings_set_by-accepted tracked settings _ memory h are = are
