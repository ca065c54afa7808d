use Rattle.replay_text.proofs.Texts.{begins_more, kept_on}
use Rattle.replay_text.proofs.text.write_answer.Goals as goal

pub returns-in_err-write_integers-clause-kept : goal.returns-in_err-write_integers-clause-kept
returns-in_err-write_integers-clause-kept c =
    kept_on c.args.bytes.now.items _ c.write_integers.new.bytes.items
    (begins_more _ _ _ _ (begins_more _ _ _ _ (begins_more _ _ _ _ (begins_more _ _ _ _ (_, c.in_ok-extend_from_slice.ensures.items) c.in_ok-push.ensures.items) c.in_ok-extend_from_slice-2.ensures.items) c.in_ok-push-2.ensures.items) c.in_ok-extend_from_slice-3.ensures.items)
    c.in_err-write_integers.ensures.kept
