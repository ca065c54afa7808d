-- each pair adds its byte
use Rattle.std.proofs.Common.{◌∙◌, ap, sym, ◌++◌, ℕ}
use Rattle.gl_memory.specs.Room.{RoomView}
use Rattle.script_reader.specs.Hex.{paired}
use Rattle.script_reader.proofs.Pairs.{length-paired, are_pairs-digits, paired-push, digits_left}
use Rattle.script_reader.proofs.hex.octets_from.Goals as goal

pub loop-rest-init : goal.loop-rest-init
loop-rest-init c = record {
  whole = ap (λ (o : RoomView ℕ). o.items ++ paired c.args.digits.now) c.in_ok-octets.ensures;
  room = ap (λ (o : RoomView ℕ). o.room) c.in_ok-octets.ensures ∙ sym (length-paired c.args.digits.now);
  digits = are_pairs-digits c.args.digits.now c.requires;
}

pub loop-rest-preserved : goal.loop-rest-preserved
loop-rest-preserved c = record {
  whole = paired-push c.loop-rest.octets c.push.new.self c.loop-rest.rest.now (paired c.args.digits.now) _ _ c.in-len2-up.len_at_least c.digit_value.ensures.gives c.digit_value-in-len2-up.ensures.gives c.push.ensures c.loop-rest.invariant.whole;
  room = ap (λ (o : RoomView ℕ). o.room) c.push.ensures ∙ c.loop-rest.invariant.room;
  digits = digits_left c.loop-rest.rest.now c.in-len2-up.len_at_least c.loop-rest.invariant.digits;
}
