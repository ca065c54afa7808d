-- What a call does to private state with an error and without one, and what drivers need of it for their laws.
use Rattle.std.proofs.Common.{◌≡◌, ◌≢◌, ℕ, ℤ, false, List, [], ◌∷◌, Option, Some, None, ◌⊎◌, inl, inr, refl, sym, subst, ap, ◌∙◌}
use Rattle.std.specs.Option.{option_or}
use Rattle.std.specs.Prelude.{slice_set}
use Rattle.std.proofs.lemmas.List.Elements.{All-head}
use Rattle.std.proofs.lemmas.Option.{none-some}
use Rattle.gl_words.specs.Call.{is_answering}
use Rattle.gl_words.specs.declared.call.Call.{Call}
use Rattle.gl_words.specs.declared.call.Call.TheVariants.{BindBuffer, BindTexture, BufferData, BufferSubData, Clear, DeleteBuffers, DeleteTextures, DrawArrays, DrawElements, GenBuffers, GenTextures, GetError, GetFixedv, GetIntegerv, GetPointerv, IsBuffer, IsEnabled, IsTexture, LoadMatrixx, MultMatrixx, ReadPixels, TexEnvxv, TexImage2D, TexParameteri, TexSubImage2D}
use Rattle.gl_words.specs.declared.error.GlError.{GlError}
use Rattle.gl_memory.specs.Piece.{Agree}
use Rattle.gl_memory.specs.Segment.{Segment}
use Rattle.gl_objects.specs.declared.reply.EventReply.{EventReply}
use Rattle.fixed_transform.specs.declared.matrix.Matrix.{Matrix}
use Rattle.fixed_transform.specs.Stack.{below_top}
use Rattle.gl_tracked.specs.declared.tracked.Tracked.{Tracked}
use Rattle.gl_tracked.specs.Fault.{fault_of}
use Rattle.gl_tracked.specs.Gets.{number_beside}
use Rattle.gl_tracked.specs.Names.{without_buffers}
use Rattle.gl_tracked.specs.Ranges.{range_of_colour, range_of_matrix, range_of_names}
use Rattle.gl_tracked.specs.Reads.{AgreesOn, Ranges, Reads}
use Rattle.driver_trait.specs.Reply.{Nothing, Numbers}
use Rattle.gl_tracked.specs.Step.{set_by, unless_fault, tracked_after, number_asked, ranges_of, reads_all, reads_of}
use Rattle.gl_tracked.proofs.Agreeing.{SameIn, agrees_ranges, names_at-same}
use Rattle.gl_tracked.proofs.Asking.{fault_of-asked}
use Rattle.gl_tracked.proofs.Stepping.{reads_of-no_fault}
use Rattle.gl_state.specs.declared.plan.Plan.{Plan}
use Rattle.gl_state.specs.declared.plan.Plan.TheVariants.{Ask as Asks, Draw, Fault, Known, Local, Query, Read}
use Rattle.gl_state.specs.declared.settings.Settings.{Settings}
use Rattle.gl_state.specs.Gets.{alone, capability_rows, integers_asked, limit_rows, list_beside, rectangle_rows, setting_rows, truth_asked}
use Rattle.gl_state.specs.Private.{PrivateView}
use Rattle.gl_state.specs.Settings.{place_of_unit, without_textures}
use Rattle.gl_state.specs.Stacks.{StacksView}
use Rattle.gl_state.specs.Step.{error_set_by, fault_in, numbers_replied, plan_by, plan_found, plan_of, private_after, private_reply, recorded_by, settings_set_by, stacks_set_by, with_change, with_product}
use Rattle.gl_state.proofs.ImageRows.{colour_from-same}
use Rattle.gl_state.proofs.Matrices.{matrix_at-agree}

fault_in-plan_by : (fault : Option GlError) (call : Call) → fault_in (plan_by fault call) ≡ fault
fault_in-plan_by (Some error) call = refl
fault_in-plan_by None (Clear mask) = refl
fault_in-plan_by None (DrawArrays mode first count) = refl
fault_in-plan_by None call = refl

fault_in-plan_found : (asked : Option ℤ) (fault : Option GlError) (call : Call) → ((number : ℤ) → asked ≡ Some number → fault ≡ None) → fault_in (plan_found asked fault call) ≡ fault
fault_in-plan_found (Some number) fault call beside = sym (beside number refl)
fault_in-plan_found None fault call beside = fault_in-plan_by fault call

fault_in-plan_of : (p : PrivateView) (call : Call) → fault_in (plan_of p call) ≡ fault_of p.tracked call
unfolding plan_of
fault_in-plan_of p call = fault_in-plan_found (number_asked p.tracked call) (fault_of p.tracked call) call (fault_of-asked p.tracked call)

-- the error of a plan is that of its call
pub fault_of-planned : (p : PrivateView) (call : Call) (plan : Plan) → plan ≡ plan_of p call → fault_of p.tracked call ≡ fault_in plan
fault_of-planned p call plan planned = rw planned (rw (fault_in-plan_of p call) refl)

-- a plan knows no number
abbrev pub IsUnknown : Plan → Type 0
IsUnknown plan = (number : ℤ) → plan ≢ Known number

plan_by-unknown : (fault : Option GlError) (call : Call) → IsUnknown (plan_by fault call)
plan_by-unknown (Some error) call number known = absurd (cc)
plan_by-unknown None (Clear mask) number known = absurd (cc)
plan_by-unknown None (DrawArrays mode first count) number known = absurd (cc)
plan_by-unknown None _ number known = absurd (cc)

number_by : (asked : Option ℤ) (fault : Option GlError) (call : Call) (number : ℤ) → plan_found asked fault call ≡ Known number → asked ≡ Some number
number_by (Some found) fault call number known = cc
number_by None fault call number known = absurd (plan_by-unknown fault call number known)

-- a call whose plan knows a number asks for it
pub number-planned : (p : PrivateView) (call : Call) (number : ℤ) → Known number ≡ plan_of p call → number_asked p.tracked call ≡ Some number
unfolding plan_of
number-planned p call number planned = number_by (number_asked p.tracked call) (fault_of p.tracked call) call number (sym planned)

no_number_by : (asked : Option ℤ) (fault : Option GlError) (call : Call) (plan : Plan) → plan ≡ plan_found asked fault call → IsUnknown plan → asked ≡ None
no_number_by (Some number) fault call plan planned unknown = absurd (unknown number planned)
no_number_by None fault call plan planned unknown = refl

-- a call whose plan knows no number asks for none
pub no_number-planned : (p : PrivateView) (call : Call) (plan : Plan) → plan ≡ plan_of p call → IsUnknown plan → number_asked p.tracked call ≡ None
unfolding plan_of
no_number-planned p call plan planned unknown = no_number_by (number_asked p.tracked call) (fault_of p.tracked call) call plan planned unknown

by_call : (asked : Option ℤ) (fault : Option GlError) (call : Call) (plan : Plan) → plan ≡ plan_found asked fault call → IsUnknown plan → fault ≡ None → plan_by None call ≡ plan
by_call (Some number) fault call plan planned unknown none = absurd (unknown number planned)
by_call None fault call plan planned unknown none = sym (planned ∙ ap (λ (f : Option GlError). plan_by f call) none)

-- where a plan has no error and knows no number, it goes by the call alone
pub plan_by-planned : (p : PrivateView) (call : Call) (plan : Plan) → plan ≡ plan_of p call → IsUnknown plan → fault_in plan ≡ None → plan_by None call ≡ plan
unfolding plan_of
plan_by-planned p call plan planned unknown none =
    by_call (number_asked p.tracked call) (fault_of p.tracked call) call plan planned unknown (fault_of-planned p call plan planned ∙ none)

-- the plan of a query knows no number
pub query_is_unknown : (plan : Plan) → plan ≡ Query → IsUnknown plan
query_is_unknown plan query number known = absurd (cc)

-- a call that is planned as a query is one by itself
pub query-planned : (p : PrivateView) (call : Call) (plan : Plan) → plan ≡ plan_of p call → plan ≡ Query → plan_by None call ≡ Query
query-planned p call plan planned query = plan_by-planned p call plan planned (query_is_unknown plan query) (ap fault_in query) ∙ query

-- a call that asks for an event is planned so by itself
pub ask-planned : (p : PrivateView) (call : Call) (plan : Plan) → plan ≡ plan_of p call → plan ≡ Asks → plan_by None call ≡ Asks
ask-planned p call plan planned ask = plan_by-planned p call plan planned (λ number known. absurd (cc)) (ap fault_in ask) ∙ ask

-- a call that is planned as local is so by itself
pub local-planned : (p : PrivateView) (call : Call) (plan : Plan) → plan ≡ plan_of p call → plan ≡ Local → plan_by None call ≡ Local
local-planned p call plan planned local = plan_by-planned p call plan planned (λ number known. absurd (cc)) (ap fault_in local) ∙ local

-- a plan to set: by asking for an event, or locally
abbrev pub Sets : Plan → Type 0
Sets plan = (plan ≡ Asks) ⊎ (plan ≡ Local)

-- such a plan has no error
pub fault_in-sets : (plan : Plan) → Sets plan → fault_in plan ≡ None
fault_in-sets plan (inl ask) = ap fault_in ask
fault_in-sets plan (inr local) = ap fault_in local

-- and is none of a query
pub sets-no_query : (p : PrivateView) (call : Call) (plan : Plan) → plan ≡ plan_of p call → Sets plan → plan_by None call ≢ Query
sets-no_query p call plan planned (inl ask) query = let by = ask-planned p call plan planned ask in absurd (cc)
sets-no_query p call plan planned (inr local) query = let by = local-planned p call plan planned local in absurd (cc)

-- a plan to answer knows no number
pub answers-unknown : (plan : Plan) → (plan ≡ Query) ⊎ (plan ≡ Asks) → IsUnknown plan
answers-unknown plan (inl query) number known = absurd (cc)
answers-unknown plan (inr ask) number known = absurd (cc)

-- only a plan that is a fault has an error
pub fault_in-others : (plan : Plan) → ((error : GlError) → plan ≢ Fault error) → fault_in plan ≡ None
fault_in-others (Fault error) other = absurd (other error refl)
fault_in-others (Known number) other = refl
fault_in-others Query other = refl
fault_in-others Read other = refl
fault_in-others Asks other = refl
fault_in-others Draw other = refl
fault_in-others Local other = refl

error_set_by-no_query : (error : Option GlError) (call : Call) → plan_by None call ≢ Query → error_set_by error call ≡ error
error_set_by-no_query error GetError other = absurd (other refl)
error_set_by-no_query error _ other = refl

-- what a call leaves that has no error and is no query, part by part
pub private_after-parts : (p : PrivateView) (call : Call) (memory : List Segment) {tracked : Tracked} {stacks : StacksView} {settings : Settings} → plan_by None call ≢ Query
    → tracked ≡ set_by p.tracked call memory → stacks ≡ stacks_set_by p.tracked p.stacks call memory → settings ≡ settings_set_by p.tracked p.settings call memory
    → record p { tracked = tracked; stacks = stacks; settings = settings } ≡ private_after None p call memory None
private_after-parts p call memory other t s o = let same = error_set_by-no_query p.error call other in cc

private_after-query_by : (p : PrivateView) (call : Call) (memory : List Segment) → plan_by None call ≡ Query → record p { error = error_set_by p.error call } ≡ private_after None p call memory None
unfolding set_by stacks_set_by settings_set_by
private_after-query_by p GetError memory query = refl
private_after-query_by p (GetFixedv pname params) memory query = refl
private_after-query_by p (GetIntegerv pname params) memory query = refl
private_after-query_by p (GetPointerv pname params) memory query = refl
private_after-query_by p (IsEnabled cap) memory query = refl
private_after-query_by p _ memory query = absurd (cc)

-- a query leaves all but the recorded error
pub private_after-query : (p : PrivateView) (call : Call) (memory : List Segment) (plan : Plan) → plan ≡ plan_of p call → plan ≡ Query
    → record p { error = error_set_by p.error call } ≡ private_after None p call memory None
private_after-query p call memory plan planned query = private_after-query_by p call memory (query-planned p call plan planned query)

private_after-pixels_by : (p : PrivateView) (call : Call) (memory : List Segment) → plan_by None call ≢ Asks → plan_by None call ≢ Query → plan_by None call ≢ Local → private_after None p call memory None ≡ p
unfolding set_by stacks_set_by settings_set_by
private_after-pixels_by p (BindBuffer target buffer) memory ask query local = absurd (ask refl)
private_after-pixels_by p (BindTexture target texture) memory ask query local = absurd (ask refl)
private_after-pixels_by p (BufferData target size source usage) memory ask query local = absurd (ask refl)
private_after-pixels_by p (BufferSubData target offset size source) memory ask query local = absurd (ask refl)
private_after-pixels_by p (Clear mask) memory ask query local = refl
private_after-pixels_by p (DeleteBuffers n names) memory ask query local = absurd (ask refl)
private_after-pixels_by p (DeleteTextures n names) memory ask query local = absurd (ask refl)
private_after-pixels_by p (DrawArrays mode first count) memory ask query local = refl
private_after-pixels_by p (DrawElements mode count kind indices) memory ask query local = refl
private_after-pixels_by p (GenBuffers n names) memory ask query local = absurd (ask refl)
private_after-pixels_by p (GenTextures n names) memory ask query local = absurd (ask refl)
private_after-pixels_by p GetError memory ask query local = absurd (query refl)
private_after-pixels_by p (GetFixedv pname params) memory ask query local = absurd (query refl)
private_after-pixels_by p (GetIntegerv pname params) memory ask query local = absurd (query refl)
private_after-pixels_by p (GetPointerv pname params) memory ask query local = absurd (query refl)
private_after-pixels_by p (IsBuffer buffer) memory ask query local = absurd (ask refl)
private_after-pixels_by p (IsEnabled cap) memory ask query local = absurd (query refl)
private_after-pixels_by p (IsTexture texture) memory ask query local = absurd (ask refl)
private_after-pixels_by p (ReadPixels x y width height format kind pixels) memory ask query local = refl
private_after-pixels_by p (TexImage2D target level internalformat width height border format kind pixels) memory ask query local = absurd (ask refl)
private_after-pixels_by p (TexParameteri target pname param) memory ask query local = absurd (ask refl)
private_after-pixels_by p (TexSubImage2D target level xoffset yoffset width height format kind pixels) memory ask query local = absurd (ask refl)
private_after-pixels_by p _ memory ask query local = absurd (local refl)

tracked_of-private_after_by : (fault : Option GlError) (p : PrivateView) (call : Call) (memory : List Segment) (refused : Option GlError) → (private_after fault p call memory refused).tracked ≡ unless_fault fault p.tracked (set_by p.tracked call memory)
tracked_of-private_after_by None p call memory refused = refl
tracked_of-private_after_by (Some error) p call memory refused = refl

-- the tracked part follows the table
pub tracked_of-private_after : (p : PrivateView) (call : Call) (memory : List Segment) (refused : Option GlError) → (private_after (fault_of p.tracked call) p call memory refused).tracked ≡ tracked_after p.tracked call memory
unfolding tracked_after
tracked_of-private_after p call memory refused = tracked_of-private_after_by (fault_of p.tracked call) p call memory refused

private_after-fault : (p : PrivateView) (call : Call) (m n : List Segment) (refused : Option GlError) (fault : Option GlError)
    → (fault ≡ None → private_after None p call m refused ≡ private_after None p call n refused) → private_after fault p call m refused ≡ private_after fault p call n refused
private_after-fault p call m n refused None same = same refl
private_after-fault p call m n refused (Some error) same = refl

-- a matrix leaves the same on memories that agree where it lies
loads_same : (p : PrivateView) (matrix : ℕ) (m n : List Segment) (refused : Option GlError) → AgreesOn m n (Ranges (range_of_matrix matrix ∷ []))
    → private_after None p (LoadMatrixx matrix) m refused ≡ private_after None p (LoadMatrixx matrix) n refused
unfolding set_by stacks_set_by settings_set_by
loads_same p matrix m n refused agree =
    ap (λ (read : Matrix). record p { error = recorded_by p.error refused; stacks = with_change (λ matrices. read ∷ below_top matrices) p.tracked p.stacks }) (matrix_at-agree m n matrix agree)

multiplies_same : (p : PrivateView) (matrix : ℕ) (m n : List Segment) (refused : Option GlError) → AgreesOn m n (Ranges (range_of_matrix matrix ∷ []))
    → private_after None p (MultMatrixx matrix) m refused ≡ private_after None p (MultMatrixx matrix) n refused
unfolding set_by stacks_set_by settings_set_by
multiplies_same p matrix m n refused agree =
    ap (λ (read : Matrix). record p { error = recorded_by p.error refused; stacks = with_product read p.tracked p.stacks }) (matrix_at-agree m n matrix agree)

-- names of deleted objects leave the same on memories that agree where they lie
deletes_buffers_same : (p : PrivateView) (count : ℤ) (names : ℕ) (m n : List Segment) (refused : Option GlError) → Agree m n (range_of_names names count ∷ [])
    → private_after None p (DeleteBuffers count names) m refused ≡ private_after None p (DeleteBuffers count names) n refused
unfolding set_by stacks_set_by settings_set_by
deletes_buffers_same p count names m n refused agree =
    ap (λ (deleted : List ℕ). record p { error = recorded_by p.error refused; tracked = without_buffers deleted p.tracked })
    (names_at-same m n names count (All-head (SameIn m n) (range_of_names names count) [] agree))

deletes_textures_same : (p : PrivateView) (count : ℤ) (names : ℕ) (m n : List Segment) (refused : Option GlError) → Agree m n (range_of_names names count ∷ [])
    → private_after None p (DeleteTextures count names) m refused ≡ private_after None p (DeleteTextures count names) n refused
unfolding set_by stacks_set_by settings_set_by
deletes_textures_same p count names m n refused agree =
    ap (λ (deleted : List ℕ). record p { error = recorded_by p.error refused; settings = without_textures deleted p.settings })
    (names_at-same m n names count (All-head (SameIn m n) (range_of_names names count) [] agree))

-- a colour leaves the same on memories that agree where it lies
colours_same : (p : PrivateView) (target pname params : ℕ) (m n : List Segment) (refused : Option GlError) → Agree m n (range_of_colour params ∷ [])
    → private_after None p (TexEnvxv target pname params) m refused ≡ private_after None p (TexEnvxv target pname params) n refused
unfolding set_by stacks_set_by settings_set_by
colours_same p target pname params m n refused agree =
    ap (λ (colour : List ℤ). record p {
      error = recorded_by p.error refused;
      settings = record p.settings { environment_colour = slice_set p.settings.environment_colour (place_of_unit p.tracked.active) colour };
    }) (colour_from-same m n params (All-head (SameIn m n) (range_of_colour params) [] agree))

private_after-reads_by : (p : PrivateView) (call : Call) (m n : List Segment) (refused : Option GlError) → Agree m n (ranges_of p.tracked call m)
    → private_after None p call m refused ≡ private_after None p call n refused
unfolding ranges_of set_by stacks_set_by settings_set_by
private_after-reads_by p (DeleteBuffers count names) m n refused agree = deletes_buffers_same p count names m n refused agree
private_after-reads_by p (DeleteTextures count names) m n refused agree = deletes_textures_same p count names m n refused agree
private_after-reads_by p (LoadMatrixx matrix) m n refused agree = loads_same p matrix m n refused agree
private_after-reads_by p (MultMatrixx matrix) m n refused agree = multiplies_same p matrix m n refused agree
private_after-reads_by p (TexEnvxv target pname params) m n refused agree = colours_same p target pname params m n refused agree
private_after-reads_by p _ m n refused agree = refl

-- the step is the same on memories that agree where the call reads
pub private_after-reads : (p : PrivateView) (call : Call) (m n : List Segment) (refused : Option GlError) → AgreesOn m n (reads_of p.tracked call m)
    → private_after (fault_of p.tracked call) p call m refused ≡ private_after (fault_of p.tracked call) p call n refused
private_after-reads p call m n refused agree =
    private_after-fault p call m n refused (fault_of p.tracked call)
    (λ none. private_after-reads_by p call m n refused
    (agrees_ranges m n (reads_all p.tracked call) (ranges_of p.tracked call m) (subst (λ (reads : Reads). AgreesOn m n reads) (reads_of-no_fault p.tracked call m none) agree)))

-- what an event was refused for is recorded behind the rest of the step
pub private_after-refused : (p : PrivateView) (call : Call) (memory : List Segment) (refused : Option GlError) (before : PrivateView) → before ≡ private_after None p call memory None
    → record before { error = recorded_by before.error refused } ≡ private_after None p call memory refused
private_after-refused p call memory refused before is = ap (λ (b : PrivateView). record b { error = recorded_by b.error refused }) is

module _ (p : PrivateView) (event : EventReply) where
  -- only calls that ask for something are answered
  pub private_reply-unanswered : (fault : Option GlError) (call : Call) → is_answering call ≡ false → private_reply fault p call event ≡ Nothing
  unfolding is_answering
  private_reply-unanswered (Some error) call h = refl
  private_reply-unanswered None (GenBuffers n names) h = absurd (cc)
  private_reply-unanswered None (GenTextures n names) h = absurd (cc)
  private_reply-unanswered None GetError h = absurd (cc)
  private_reply-unanswered None (GetFixedv pname params) h = absurd (cc)
  private_reply-unanswered None (GetIntegerv pname params) h = absurd (cc)
  private_reply-unanswered None (GetPointerv pname params) h = absurd (cc)
  private_reply-unanswered None (IsBuffer buffer) h = absurd (cc)
  private_reply-unanswered None (IsEnabled cap) h = absurd (cc)
  private_reply-unanswered None (IsTexture texture) h = absurd (cc)
  private_reply-unanswered None _ h = refl

  private_reply-others_by : (fault : Option GlError) (call : Call) → plan_by fault call ≢ Query → plan_by fault call ≢ Asks → private_reply fault p call event ≡ Nothing
  private_reply-others_by (Some error) call query ask = refl
  private_reply-others_by None (GenBuffers n names) query ask = absurd (ask refl)
  private_reply-others_by None (GenTextures n names) query ask = absurd (ask refl)
  private_reply-others_by None GetError query ask = absurd (query refl)
  private_reply-others_by None (GetFixedv pname params) query ask = absurd (query refl)
  private_reply-others_by None (GetIntegerv pname params) query ask = absurd (query refl)
  private_reply-others_by None (GetPointerv pname params) query ask = absurd (query refl)
  private_reply-others_by None (IsBuffer buffer) query ask = absurd (ask refl)
  private_reply-others_by None (IsEnabled cap) query ask = absurd (query refl)
  private_reply-others_by None (IsTexture texture) query ask = absurd (ask refl)
  private_reply-others_by None _ query ask = refl

  others_by : (asked : Option ℤ) (fault : Option GlError) (call : Call) (plan : Plan) → plan ≡ plan_found asked fault call → IsUnknown plan → plan ≢ Query → plan ≢ Asks → private_reply fault p call event ≡ Nothing
  others_by (Some number) fault call plan planned unknown query ask = absurd (unknown number planned)
  others_by None fault call plan planned unknown query ask = private_reply-others_by fault call (λ is. query (planned ∙ is)) (λ is. ask (planned ∙ is))

  -- only known numbers, queries and what asks objects are answered
  pub private_reply-others : (call : Call) (plan : Plan) → plan ≡ plan_of p call → IsUnknown plan → plan ≢ Query → plan ≢ Asks → private_reply (fault_in plan) p call event ≡ Nothing
  unfolding plan_of
  private_reply-others call plan planned unknown query ask =
      ap (λ (fault : Option GlError). private_reply fault p call event) (sym (fault_of-planned p call plan planned))
      ∙ others_by (number_asked p.tracked call) (fault_of p.tracked call) call plan planned unknown query ask

  -- a call that asks for a number of tracked state is answered by it alone
  pub private_reply-asked : (call : Call) (number : ℤ) → number_asked p.tracked call ≡ Some number → private_reply None p call event ≡ Numbers (number ∷ [])
  unfolding number_asked integers_asked truth_asked
  private_reply-asked (GetIntegerv pname params) number asked =
      ap (λ (o : Option ℤ). numbers_replied (option_or (alone o) (option_or (alone (number_beside (setting_rows p) pname)) (option_or (alone (number_beside limit_rows pname)) (list_beside (rectangle_rows p) pname))))) asked
  private_reply-asked (GetPointerv pname params) number asked = ap (λ (o : Option ℤ). numbers_replied (alone o)) asked
  private_reply-asked (IsEnabled cap) number asked = ap (λ (o : Option ℤ). numbers_replied (alone (option_or o (number_beside (capability_rows p) cap)))) asked
  private_reply-asked _ number asked = absurd (none-some number asked)

  -- a known number is what a call replies
  pub private_reply-known : (call : Call) (plan : Plan) (number : ℤ) → plan ≡ plan_of p call → plan ≡ Known number → Numbers (number ∷ []) ≡ private_reply (fault_in plan) p call event
  private_reply-known call plan number planned known =
      sym (private_reply-asked call number (number-planned p call number (sym known ∙ planned)))
      ∙ ap (λ (fault : Option GlError). private_reply fault p call event) (sym (ap fault_in known))

module _ (p : PrivateView) where
  -- a call that asks for a number of tracked state changes nothing
  pub private_after-asked : (call : Call) (memory : List Segment) (number : ℤ) → number_asked p.tracked call ≡ Some number → private_after None p call memory None ≡ p
  unfolding number_asked set_by stacks_set_by settings_set_by
  private_after-asked (GetIntegerv pname params) memory number asked = refl
  private_after-asked (GetPointerv pname params) memory number asked = refl
  private_after-asked (IsEnabled cap) memory number asked = refl
  private_after-asked _ memory number asked = absurd (none-some number asked)

  private_after-pixels : (call : Call) (memory : List Segment) (plan : Plan) → plan ≡ plan_of p call → IsUnknown plan → fault_in plan ≡ None → plan ≢ Asks → plan ≢ Query → plan ≢ Local → p ≡ private_after None p call memory None
  private_after-pixels call memory plan planned unknown none ask query local =
      let by = plan_by-planned p call plan planned unknown none in
      sym (private_after-pixels_by p call memory (λ is. ask (sym by ∙ is)) (λ is. query (sym by ∙ is)) (λ is. local (sym by ∙ is)))

  -- a call without an error leaves the private state that is no query, isn't local and asks for nothing of the objects
  pub private_after-others : (call : Call) (memory : List Segment) (plan : Plan) → plan ≡ plan_of p call → ((error : GlError) → plan ≢ Fault error) → plan ≢ Query → plan ≢ Asks → plan ≢ Local
      → p ≡ private_after None p call memory None
  private_after-others call memory (Fault error) planned fault query ask local = absurd (fault error refl)
  private_after-others call memory (Known number) planned fault query ask local = sym (private_after-asked call memory number (number-planned p call number planned))
  private_after-others call memory Query planned fault query ask local = absurd (query refl)
  private_after-others call memory Read planned fault query ask local = private_after-pixels call memory Read planned (λ number known. absurd (cc)) refl ask query local
  private_after-others call memory Asks planned fault query ask local = absurd (ask refl)
  private_after-others call memory Draw planned fault query ask local = private_after-pixels call memory Draw planned (λ number known. absurd (cc)) refl ask query local
  private_after-others call memory Local planned fault query ask local = absurd (local refl)
