use Rattle.std.proofs.Common.{◌≡◌, ℤ, None, refl, sym, ◌∙◌, rules, arith, w32, to_z, of_z, SFits}
use Rattle.std.proofs.lemmas.Int.{ints, to_z-of_z}
use Rattle.std.proofs.lemmas.Result.{IfOk-weaker}
use Rattle.driver_trait.specs.declared.reply.Reply.{Reply}
use Rattle.driver_trait.specs.Reply.{Replied, replied, Bytes}
use Rattle.gl_state.specs.Event.{no_reply}
use Rattle.gl_state.specs.declared.plan.Plan.TheVariants.{Read}
use Rattle.gl_state.proofs.Stepping.{fault_of-planned}
use Rattle.soft_driver.specs.Pixels.{bytes_read}
use Rattle.soft_driver.specs.Own.{own_reply, number_of}
use Rattle.soft_driver.proofs.Replies.{pixels_are_few, read_is_no_other}
use Rattle.soft_driver.proofs.soft.Soft.read.Goals as goal

pub pixels-requires : goal.pixels-requires
pixels-requires c =
    let read = c.in-ReadPixels in
    let width : SFits w32 read.width = search rules in
    let height : SFits w32 read.height = search rules in
    let state = c.args.self.now.own.state in
    let none = fault_of-planned state c.args.call.now Read (sym c.requires.plan) in
    let few = pixels_are_few state.tracked read.x read.y read.width read.height read.format read.kind read.pixels (rw read.is at none) in
    record { wide = omega (arith, ints, few.wide); high = omega (arith, ints, few.high) }

pub unreachable-requires : goal.unreachable-requires
unreachable-requires c = read_is_no_other c.args.self.now.own c.args.call.now (sym c.requires.plan) c.in_default.not-ReadPixels

pub returns-clause-reply : goal.returns-clause-reply
returns-clause-reply c =
    let read = c.in-ReadPixels in
    let x : SFits w32 read.x = search rules in
    let y : SFits w32 read.y = search rules in
    let width : SFits w32 read.width = search rules in
    let height : SFits w32 read.height = search rules in
    let own = c.args.self.now.own in
    let bytes : ℤ → ℤ → ℤ → ℤ → Replied = λ x y width height. Bytes (bytes_read own.frame x y (number_of width) (number_of height)) in
    let passed : bytes (to_z w32 (of_z w32 read.x)) (to_z w32 (of_z w32 read.y)) (to_z w32 (of_z w32 read.width)) (to_z w32 (of_z w32 read.height)) ≡ bytes read.x read.y read.width read.height =
    cc (to_z-of_z w32 read.x x, to_z-of_z w32 read.y y, to_z-of_z w32 read.width width, to_z-of_z w32 read.height height) in
    let told : bytes read.x read.y read.width read.height ≡ own_reply None own c.args.call.now no_reply = rw read.is refl in
    IfOk-weaker c.pixels.result
    (λ (reply : Reply). replied reply ≡ bytes (to_z w32 (of_z w32 read.x)) (to_z w32 (of_z w32 read.y)) (to_z w32 (of_z w32 read.width)) (to_z w32 (of_z w32 read.height)))
    (λ (reply : Reply). replied reply ≡ own_reply None own c.args.call.now no_reply)
    (λ reply is. is ∙ passed ∙ told) c.pixels.ensures
