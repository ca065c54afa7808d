use Rattle.std.proofs.Common.{◌≡◌, ℕ, ◌<◌, List, length, Option, Ok, Err, IfSome, refl, sym, ap, subst, ◌∙◌, inl}
use Rattle.gl_outside.specs.Moved.{Takes, TakesAtMost}
use Rattle.script_reader.specs.Grammar.{script_of}
use Rattle.replay_core.specs.Outcome.{report_due}
use Rattle.replay_core.specs.World.{world_of}
use Rattle.replay_core.proofs.JournalLemmas.{hands_over_none}
use Rattle.replay_core.proofs.Outcomes.{reads_script, runs_script, refused_is_read, accepted_is_read, replays, puts_some, writes_some, stops_anywhere}
use Rattle.replay_core.proofs.top.replay_by.Goals as goal

pub returns-in-Err-NoMemory-clause-no_memory : goal.returns-in-Err-NoMemory-clause-no_memory
returns-in-Err-NoMemory-clause-no_memory g c = λ asked words e. (
  record { reads = c.in-Err-NoMemory.ensures.no_memory cc; writes = refl; puts = refl },
  inl (record { read = c.in-Err-NoMemory.ensures.err; handed_over = hands_over_none 0 (g.H.Launches.journal c.args.rails.now); unput = refl; unwritten = refl }),
)

pub returns-in-Err-NoMemory-read-clause-no_memory : goal.returns-in-Err-NoMemory-read-clause-no_memory
returns-in-Err-NoMemory-read-clause-no_memory g c = λ asked words e.
    let read : TakesAtMost 8388609 (g.S.Source.left c.args.source.now) (g.S.Source.left c.read_up_to.new.source) = record { some = c.in-Ok.bytes.items; taken = c.in-Ok.ensures.ok; few = c.in-Ok.ensures.within } in (
      record { reads = c.in-Ok.ensures.kept; writes = refl; puts = refl },
      inl (record { read = read; handed_over = hands_over_none 0 (g.H.Launches.journal c.args.rails.now); unput = refl; unwritten = refl }),
    )

pub returns-in-Err-Bad-clause-refused : goal.returns-in-Err-Bad-clause-refused
returns-in-Err-Bad-clause-refused g c = λ left asked error e words refused sound.
    let is_refused = ap (λ bs. script_of bs) (sym c.deref.ensures.value) ∙ c.in-Err-Bad.ensures.cause c.in-Err-Bad.error (cc) in
    let P : Option (List ℕ) → Type 0 = λ o. Takes o (g.S.Source.left c.read_up_to.new.source) c.in-Ok.bytes.items in
    let Q : Option (List ℕ) → Type 0 = λ o. IfSome o (λ l. l ≡ c.in-Ok.bytes.items) in
    let all : length c.in-Ok.bytes.items < 8388609 → left ≡ c.in-Ok.bytes.items = λ fewer. subst Q e (c.in-Ok.ensures.whole fewer) in
    let same : script_of c.in-Ok.bytes.items ≡ Err error = refused_is_read left c.in-Ok.bytes.items _ error c.in-Ok.ensures.within (subst P e c.in-Ok.ensures.ok) all refused in
    inl (cc)

pub returns-in-Err-Bad-clause-complete : goal.returns-in-Err-Bad-clause-complete
returns-in-Err-Bad-clause-complete g c = λ left asked script e words accepted sound no_write no_put.
    let is_refused = ap (λ bs. script_of bs) (sym c.deref.ensures.value) ∙ c.in-Err-Bad.ensures.cause c.in-Err-Bad.error (cc) in
    let P : Option (List ℕ) → Type 0 = λ o. Takes o (g.S.Source.left c.read_up_to.new.source) c.in-Ok.bytes.items in
    let Q : Option (List ℕ) → Type 0 = λ o. IfSome o (λ l. l ≡ c.in-Ok.bytes.items) in
    let all : length c.in-Ok.bytes.items < 8388609 → left ≡ c.in-Ok.bytes.items = λ fewer. subst Q e (c.in-Ok.ensures.whole fewer) in
    let found : script_of c.in-Ok.bytes.items ≡ Ok script = accepted_is_read left c.in-Ok.bytes.items _ script c.in-Ok.ensures.within (subst P e c.in-Ok.ensures.ok) all accepted in
    let both : ⊥ = cc in
    absurd both

pub returns-in-Ok-run_command-clause-ok : goal.returns-in-Ok-run_command-clause-ok
returns-in-Ok-run_command-clause-ok g c = λ asked words e.
    let told = world_of g.S.Source.left g.K.Sink.held g.G.Shelf.list g.H.Launches.journal g.S.Source.faults g.K.Sink.faults g.G.Shelf.faults in
    let before = told c.args.source.now c.args.sink.now c.args.shelf.now c.args.rails.now in
    let after = told c.read_up_to.new.source c.deliver.new.sink c.deliver.new.shelf c.run_command.new.rails in
    let script = c.in-Ok-read.script in
    let is_script = ap (λ bs. script_of bs) (sym c.deref.ensures.value) ∙ c.in-Ok-read.ensures.found in
    let read = reads_script before.left after.left c.in-Ok.bytes.items script c.in-Ok.ensures.ok c.in-Ok.ensures.end is_script in
    let same : c.in-Some.asked ≡ asked = cc in
    let runs = runs_script c.in-Some.asked asked script before after same read c.in-Ok-run_command.ensures.journal in
    let is_report = c.bytes.ensures ∙ (c.in-Ok-run_command.ensures.report ∙ ap (λ k. report_due k script) same) in
    let sound = c.deliver.ensures.sound e in
    replays asked script before after runs c.deliver.result c.as_slice.result.now c.bytes.result.now (c.as_slice.ensures.value ∙ c.in-Ok-run_command.ensures.images) is_report c.deliver.ensures.delivers e (record { reads = c.in-Ok.ensures.kept; writes = sound.0; puts = sound.1 })

pub returns-in-Ok-run_command-clause-shelf_fault : goal.returns-in-Ok-run_command-clause-shelf_fault
returns-in-Ok-run_command-clause-shelf_fault g c = λ asked words stored e.
    let told = world_of g.S.Source.left g.K.Sink.held g.G.Shelf.list g.H.Launches.journal g.S.Source.faults g.K.Sink.faults g.G.Shelf.faults in
    let before = told c.args.source.now c.args.sink.now c.args.shelf.now c.args.rails.now in
    let after = told c.read_up_to.new.source c.deliver.new.sink c.deliver.new.shelf c.run_command.new.rails in
    let script = c.in-Ok-read.script in
    let is_script = ap (λ bs. script_of bs) (sym c.deref.ensures.value) ∙ c.in-Ok-read.ensures.found in
    let read = reads_script before.left after.left c.in-Ok.bytes.items script c.in-Ok.ensures.ok c.in-Ok.ensures.end is_script in
    let same : c.in-Some.asked ≡ asked = cc in
    let runs = runs_script c.in-Some.asked asked script before after same read c.in-Ok-run_command.ensures.journal in
    let is_report = c.bytes.ensures ∙ (c.in-Ok-run_command.ensures.report ∙ ap (λ k. report_due k script) same) in
    let fault = c.deliver.ensures.shelf_fault stored e in
    (puts_some asked script before after runs c.deliver.result c.as_slice.result.now c.bytes.result.now (c.as_slice.ensures.value ∙ c.in-Ok-run_command.ensures.images) is_report c.deliver.ensures.delivers stored e, fault.0, fault.1, c.in-Ok.ensures.kept)

pub returns-in-Ok-run_command-clause-write_fault : goal.returns-in-Ok-run_command-clause-write_fault
returns-in-Ok-run_command-clause-write_fault g c = λ asked words e.
    let told = world_of g.S.Source.left g.K.Sink.held g.G.Shelf.list g.H.Launches.journal g.S.Source.faults g.K.Sink.faults g.G.Shelf.faults in
    let before = told c.args.source.now c.args.sink.now c.args.shelf.now c.args.rails.now in
    let after = told c.read_up_to.new.source c.deliver.new.sink c.deliver.new.shelf c.run_command.new.rails in
    let script = c.in-Ok-read.script in
    let is_script = ap (λ bs. script_of bs) (sym c.deref.ensures.value) ∙ c.in-Ok-read.ensures.found in
    let read = reads_script before.left after.left c.in-Ok.bytes.items script c.in-Ok.ensures.ok c.in-Ok.ensures.end is_script in
    let same : c.in-Some.asked ≡ asked = cc in
    let runs = runs_script c.in-Some.asked asked script before after same read c.in-Ok-run_command.ensures.journal in
    let is_report = c.bytes.ensures ∙ (c.in-Ok-run_command.ensures.report ∙ ap (λ k. report_due k script) same) in
    let fault = c.deliver.ensures.write_fault e in
    (writes_some asked script before after runs c.deliver.result c.as_slice.result.now c.bytes.result.now (c.as_slice.ensures.value ∙ c.in-Ok-run_command.ensures.images) is_report c.deliver.ensures.delivers e, fault.0, fault.1, c.in-Ok.ensures.kept)

pub returns-in-Ok-run_command-clause-no_memory : goal.returns-in-Ok-run_command-clause-no_memory
returns-in-Ok-run_command-clause-no_memory g c = λ asked words e.
    let told = world_of g.S.Source.left g.K.Sink.held g.G.Shelf.list g.H.Launches.journal g.S.Source.faults g.K.Sink.faults g.G.Shelf.faults in
    let before = told c.args.source.now c.args.sink.now c.args.shelf.now c.args.rails.now in
    let after = told c.read_up_to.new.source c.deliver.new.sink c.deliver.new.shelf c.run_command.new.rails in
    let script = c.in-Ok-read.script in
    let is_script = ap (λ bs. script_of bs) (sym c.deref.ensures.value) ∙ c.in-Ok-read.ensures.found in
    let read = reads_script before.left after.left c.in-Ok.bytes.items script c.in-Ok.ensures.ok c.in-Ok.ensures.end is_script in
    let same : c.in-Some.asked ≡ asked = cc in
    let runs = runs_script c.in-Some.asked asked script before after same read c.in-Ok-run_command.ensures.journal in
    let is_report = c.bytes.ensures ∙ (c.in-Ok-run_command.ensures.report ∙ ap (λ k. report_due k script) same) in
    let sound = c.deliver.ensures.no_memory e in
    stops_anywhere asked script before after runs c.deliver.result c.as_slice.result.now c.bytes.result.now (c.as_slice.ensures.value ∙ c.in-Ok-run_command.ensures.images) is_report c.deliver.ensures.delivers e (record { reads = c.in-Ok.ensures.kept; writes = sound.0; puts = sound.1 })

pub returns-in-Ok-run_command-clause-refused : goal.returns-in-Ok-run_command-clause-refused
returns-in-Ok-run_command-clause-refused g c = λ left asked error e words refused sound.
    let is_script = ap (λ bs. script_of bs) (sym c.deref.ensures.value) ∙ c.in-Ok-read.ensures.found in
    let P : Option (List ℕ) → Type 0 = λ o. Takes o (g.S.Source.left c.read_up_to.new.source) c.in-Ok.bytes.items in
    let Q : Option (List ℕ) → Type 0 = λ o. IfSome o (λ l. l ≡ c.in-Ok.bytes.items) in
    let all : length c.in-Ok.bytes.items < 8388609 → left ≡ c.in-Ok.bytes.items = λ fewer. subst Q e (c.in-Ok.ensures.whole fewer) in
    let found : script_of c.in-Ok.bytes.items ≡ Err error = refused_is_read left c.in-Ok.bytes.items _ error c.in-Ok.ensures.within (subst P e c.in-Ok.ensures.ok) all refused in
    let both : ⊥ = cc in
    absurd both
