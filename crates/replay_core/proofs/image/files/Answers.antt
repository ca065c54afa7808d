use Rattle.std.proofs.Common.{[], sym, subst, arith, rules}
use Rattle.replay_lines.specs.Results.{DoneView, told_by}
use Rattle.replay_core.specs.Images.{file_of, files_of, IsWhole}
use Rattle.replay_core.proofs.Flats.{added_more}
use Rattle.replay_core.proofs.image.files.Goals as goal

pub loop-place-init : goal.loop-place-init
unfolding files_of
loop-place-init c = search rules

pub add_file-requires : goal.add_file-requires
add_file-requires c =
    let whole : DoneView → Type 0 = λ done. IsWhole done.shown in
    record { whole = subst whole (sym c.at.ensures) (c.requires.whole c.loop-place.place (told_by c.at.result.now) (omega arith)) }

pub loop-place-preserved : goal.loop-place-preserved
unfolding files_of
loop-place-preserved c =
    added_more (λ (done : DoneView). file_of done.shown) c.args.results.now c.loop-place.place (told_by c.at.result.now) [] c.loop-place.files.items c.add_file.new.files.items
    (omega arith) c.at.ensures c.loop-place.invariant c.in_ok-add_file.ensures
