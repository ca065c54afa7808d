use Rattle.std.proofs.Common.{◌≡◌, ◌+◌, ◌-◌, ◌≤◌, length, sym, ap, ◌∙◌, arith}
use Rattle.gl_objects.proofs.FreeNames.{free_of, free_of-used, free_of-more, free_of-all}
use Rattle.gl_objects.proofs.UsedNames.{AreUsed-alike, AreUsed-within}
use Rattle.gl_objects.proofs.table.Table.least_free.Goals as goal

pub overflow_step-name : goal.overflow_step-name
overflow_step-name g c =
    let full = c.self.inside.full in
    let within : full ≤ length c.args.self.now = AreUsed-within c.args.self.now full (AreUsed-alike _ _ full (sym c.self.view_is) c.self.invariant.1.1) in
    omega (arith, within, c.requires.few)

pub loop-name-init : goal.loop-name-init
loop-name-init g c =
    let full = c.self.inside.full in
    let same : full ≡ full + 1 - 1 = omega arith in
    c.new-names.ensures.items
    ∙ free_of-used c.args.self.now c.args.n full (AreUsed-alike _ _ full (sym c.self.view_is) c.self.invariant.1.1)
    ∙ ap (free_of c.args.self.now c.args.n) same

pub loop-name-preserved : goal.loop-name-preserved
loop-name-preserved g c =
    free_of-more c.args.self.now c.args.n (c.loop-name.name - 1) (c.loop-name.name + 1 - 1) c.loop-name.name c.loop-name.names.items c.add_if_free.new.names.items
    c.loop-name.invariant (omega (arith, c.loop-name.auto.name)) (omega (arith, c.loop-name.auto.name)) c.in_ok-add_if_free.ensures

pub returns : goal.returns
returns g c =
    let full = c.self.inside.full in
    let within : full ≤ length c.args.self.now = AreUsed-within c.args.self.now full (AreUsed-alike _ _ full (sym c.self.view_is) c.self.invariant.1.1) in
    let most = c.loop-name.auto.name-end (omega (arith, within, c.len.ensures.len)) in
    c.loop-name.invariant
    ∙ free_of-all c.args.self.now c.args.n (c.loop-name.name - 1) (omega (arith, most, c.loop-name-test.false, c.loop-name.auto.name, c.len.ensures.len))
