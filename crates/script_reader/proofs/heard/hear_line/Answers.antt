-- what is judged behind what is kept is judged behind the lines before
use Rattle.std.proofs.Common.{◌∙◌, OnOk, Result, Ok, Err}
use Rattle.script_reader.proofs.Hearing.{IsHeard-push, judged_heard, numbered_heard}
use Rattle.script_reader.proofs.heard.hear_line.Goals as goal

all_on_ok : {T E : Type 0} (r : Result T E) (A B C P : Type 0) → (A → B → C → P) → OnOk r A → OnOk r B → OnOk r C → OnOk r P
all_on_ok (Ok x) A B C P f a b c = f a b c
all_on_ok (Err e) A B C P f a b c = tt

pub returns-in-Ok-clause-ok : goal.returns-in-Ok-clause-ok
returns-in-Ok-clause-ok c =
    all_on_ok c.hear.result _ _ _ _
    (λ contexts lines before saids is.
    (c.in-Ok.said, judged_heard c.args.heard.now saids c.args.at c.args.line.now _ is c.judge_within.ensures.gives ∙ c.in-Ok.is, IsHeard-push c.args.heard.now c.hear.new.heard saids c.in-Ok.said contexts lines before is))
    c.hear.ensures.contexts c.hear.ensures.kept c.hear.ensures.before

pub returns-in-Err-clause-err : goal.returns-in-Err-clause-err
returns-in-Err-clause-err c = λ saids is.
    numbered_heard c.args.heard.now saids c.args.at c.args.line.now c.in-Err.fault is (judged_heard c.args.heard.now saids c.args.at c.args.line.now _ is c.judge_within.ensures.gives ∙ c.in-Err.is)
