use Rattle.std.proofs.Common.{rules, ◌≡◌, ◌+◌, ◌≤◌, true, length, is_some, sym, arith}
use Rattle.gl_objects.specs.Table.{named}
use Rattle.gl_objects.proofs.UsedNames.{AreUsed-alike, AreUsed-more, AreUsed-within, AreUsed-end}
use Rattle.gl_objects.proofs.table.Table.used.Goals as goal

pub loop-used-init : goal.loop-used-init
loop-used-init g c = AreUsed-alike _ _ c.self.inside.full (sym c.self.view_is) c.self.invariant.1.1

pub loop-used-preserved : goal.loop-used-preserved
loop-used-preserved g c =
    let there : is_some (named c.args.self.now (c.loop-used.used + 1)) ≡ true = search (rules, c.from.ensures, c.is_in_use.ensures, c.if-not-is_in_use.ensures) in
    AreUsed-more c.args.self.now c.loop-used.used (c.loop-used.used + 1) (c.loop-used.used + 1) c.loop-used.invariant there (omega arith) (omega arith)

pub returns : goal.returns
returns g c =
    let full = c.self.inside.full in
    let within : full ≤ length c.args.self.now = AreUsed-within c.args.self.now full (AreUsed-alike _ _ full (sym c.self.view_is) c.self.invariant.1.1) in
    let most = c.loop-used.auto.used-end (omega (arith, within, c.len-most.ensures.len)) in
    AreUsed-end c.args.self.now c.loop-used.used c.len-most.result (omega (arith, most, c.loop-used-test.false)) c.loop-used.invariant
