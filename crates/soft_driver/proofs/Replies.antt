-- How a call replies by its plan: one that reads the pixels that it reads, all others what the private state does; and which calls may ask for memory.
use Rattle.std.proofs.Common.{◌≡◌, ℕ, ℤ, pos, ◌≤ℤ◌, ◌≢◌, true, Option, Some, None, refl, sym, subst, ◌∙◌, arith}
use Rattle.std.specs.Prelude.{int_le, nat_lt, ◌==◌}
use Rattle.std.proofs.lemmas.Bool.{and_parts, true≢false}
use Rattle.std.proofs.lemmas.Bool.Decides.{nat_tests}
use Rattle.std.proofs.lemmas.Int.{ints}
use Rattle.gl_words.specs.declared.call.Call.{Call}
use Rattle.gl_words.specs.declared.call.Call.TheVariants.{BindBuffer, BindTexture, BufferData, BufferSubData, DeleteBuffers, DeleteTextures, GenBuffers, GenTextures, ReadPixels, TexImage2D, TexSubImage2D}
use Rattle.gl_words.specs.declared.error.GlError.{GlError}
use Rattle.gl_tracked.specs.Fault.{fault_of, is_extent, is_readable}
use Rattle.gl_tracked.specs.Step.{number_asked}
use Rattle.gl_tracked.specs.declared.tracked.Tracked.{Tracked}
use Rattle.gl_tracked.proofs.Faults.{first_passed}
use Rattle.driver_trait.specs.Reply.{Nothing}
use Rattle.gl_state.specs.declared.plan.Plan.{Plan}
use Rattle.gl_state.specs.declared.plan.Plan.TheVariants.{Ask as Asks, Query, Read}
use Rattle.gl_objects.specs.declared.reply.EventReply.{EventReply}
use Rattle.gl_state.specs.Event.{gives_content}
use Rattle.gl_state.specs.Step.{fault_in, list_length, plan_by, plan_found, plan_of, private_reply, room_of}
use Rattle.gl_state.proofs.Stepping.{IsUnknown, fault_of-planned, plan_by-planned, private_reply-others}
use Rattle.soft_driver.specs.Own.{Own, asks_memory, own_reply}

-- a call is other than ReadPixels
abbrev pub IsOther : Call → Type 0
IsOther call = (x y width height : ℤ) (format kind pixels : ℕ) → call ≢ ReadPixels x y width height format kind pixels

above_none : (n : ℕ) → n ≢ 0 → nat_lt 0 n ≡ true
above_none n h = grind (arith, nat_tests)

-- a call that replies a list may ask for memory
pub list_asks : (call : Call) → list_length call ≢ 0 → asks_memory None call ≡ true
list_asks (BindBuffer target buffer) h = absurd (h refl)
list_asks (BindTexture target texture) h = absurd (h refl)
list_asks (BufferData target size source usage) h = refl
list_asks (BufferSubData target offset size source) h = refl
list_asks (DeleteBuffers n names) h = refl
list_asks (DeleteTextures n names) h = refl
list_asks (GenBuffers n names) h = refl
list_asks (GenTextures n names) h = refl
list_asks (ReadPixels x y width height format kind pixels) h = refl
list_asks (TexImage2D target level internalformat width height border format kind pixels) h = refl
list_asks (TexSubImage2D target level xoffset yoffset width height format kind pixels) h = refl
list_asks call h = above_none (list_length call) h

-- a call that has room for numbers may ask for memory
pub room_asks : (plan : Plan) (call : Call) → room_of plan call ≢ 0 → asks_memory (fault_in plan) call ≡ true
room_asks Query call h = list_asks call h
room_asks Asks call h = list_asks call h
room_asks _ call h = absurd (h refl)

-- a call whose event has bytes or names of its own may ask for memory
pub content_asks : (call : Call) → gives_content call ≡ true → asks_memory None call ≡ true
content_asks (BufferData target size source usage) h = refl
content_asks (BufferSubData target offset size source) h = refl
content_asks (DeleteBuffers n names) h = refl
content_asks (DeleteTextures n names) h = refl
content_asks (TexImage2D target level internalformat width height border format kind pixels) h = refl
content_asks (TexSubImage2D target level xoffset yoffset width height format kind pixels) h = refl
content_asks _ h = absurd (true≢false (sym h))

reads_by : (call : Call) → plan_by None call ≡ Read → IsOther call → ⊥
reads_by (ReadPixels x y width height format kind pixels) read other = other x y width height format kind pixels refl
reads_by _ read other = absurd (cc)

module _ (own : Own) where
  -- only ReadPixels is planned as a call that reads
  pub read_is_no_other : (call : Call) → Read ≡ plan_of own.state call → IsOther call → ⊥
  read_is_no_other call planned other = reads_by call (plan_by-planned own.state call Read planned (λ number known. absurd (cc)) refl) other

  private_by : (fault : Option GlError) (call : Call) (event : EventReply) → plan_found (number_asked own.state.tracked call) fault call ≢ Read
      → private_reply fault own.state call event ≡ own_reply fault own call event
  unfolding number_asked
  private_by (Some error) call event other = refl
  private_by None (ReadPixels x y width height format kind pixels) event other = absurd (other refl)
  private_by None _ event other = refl

  -- a call that isn't planned as one that reads replies what the private state does
  pub own_reply-private : (call : Call) (event : EventReply) (plan : Plan) → plan ≡ plan_of own.state call → plan ≢ Read
      → private_reply (fault_in plan) own.state call event ≡ own_reply (fault_in plan) own call event
  unfolding plan_of
  own_reply-private call event plan planned other =
      subst (λ (fault : Option GlError). private_reply fault own.state call event ≡ own_reply fault own call event) (fault_of-planned own.state call plan planned)
      (private_by (fault_of own.state.tracked call) call event (λ is. other (planned ∙ is)))

  -- a call that is neither known nor a query, doesn't read, and asks objects for nothing is answered by nothing
  pub own_reply-nothing : (call : Call) (event : EventReply) (plan : Plan) → plan ≡ plan_of own.state call → IsUnknown plan → plan ≢ Query → plan ≢ Read → plan ≢ Asks
      → own_reply (fault_in plan) own call event ≡ Nothing
  own_reply-nothing call event plan planned unknown query reading asking =
      sym (own_reply-private call event plan planned reading) ∙ private_reply-others own.state event call plan planned unknown query asking

at_most : (a b : ℤ) → int_le a b ≡ true → a ≤ℤ b
at_most a b h = grind (arith, ints)

-- a rectangle of pixels that is read has sides of at most 512 pixels; own
pub record AreFew (width height : ℤ) : Type 0 where
  pub wide : width ≤ℤ pos 512
  pub high : height ≤ℤ pos 512

readable-few : (width height : ℤ) → is_readable width height ≡ true → AreFew width height
unfolding is_readable
readable-few width height h =
    let limits = and_parts (is_extent width height) _ h in
    let sides = and_parts (int_le width (pos 512)) (int_le height (pos 512)) (limits.1) in
    record { wide = at_most width (pos 512) (sides.0); high = at_most height (pos 512) (sides.1) }

-- where ReadPixels has no error its sides are few
pub pixels_are_few : (tracked : Tracked) (x y width height : ℤ) (format kind pixels : ℕ) → fault_of tracked (ReadPixels x y width height format kind pixels) ≡ None → AreFew width height
unfolding fault_of
pixels_are_few tracked x y width height format kind pixels h =
    let format_passed = first_passed (format == 0x1908) _ _ h in
    let kind_passed = first_passed (kind == 0x1401) _ _ (format_passed.1) in
    let sides_passed = first_passed (is_readable width height) _ _ (kind_passed.1) in
    readable-few width height (sides_passed.0)
