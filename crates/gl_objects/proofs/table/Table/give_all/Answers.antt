use Rattle.std.proofs.Common.{rules, ◌≡◌, ◌<◌, ℕ, length, take, slice_index, sym, ap, ◌∙◌}
use Rattle.std.proofs.lemmas.List.{take_more}
use Rattle.gl_objects.specs.declared.named.Named.TheVariants.{Generated}
use Rattle.gl_objects.specs.Table.{put, given}
use Rattle.gl_objects.proofs.Tables.{given-none, given-more}
use Rattle.gl_objects.proofs.table.Table.give_all.Goals as goal

pub loop-name-init : goal.loop-name-init
loop-name-init g c = sym (given-none c.args.self.now)

pub loop-name-preserved : goal.loop-name-preserved
loop-name-preserved g c =
    let name = slice_index c.args.names.now c.loop-name.name-index in
    let before = take c.loop-name.name-index c.args.names.now in
    let is : c.from.result ≡ name = search (rules, c.from.ensures) in
    let there : c.loop-name.name-index < length c.args.names.now = c.loop-name-test.true in
    c.in_ok-give.ensures.ok
    ∙ ap (λ (n : ℕ). put n Generated c.loop-name.self) is
    ∙ ap (put name Generated) c.loop-name.invariant
    ∙ sym (given-more before name c.args.self.now)
    ∙ ap (λ names. given names c.args.self.now) (sym (take_more c.args.names.now c.loop-name.name-index 0 there))
