use Rattle.std.proofs.Common.{◌≡◌, ℕ, rules, sym, ap, ◌∙◌, arith, w32}
use Rattle.std.proofs.lemmas.Int.{to_z-of_z}
use Rattle.std.specs.Prelude.{FitsSigned}
use Rattle.triangle_raster.specs.declared.fragment.Fragment.{Fragment}
use Rattle.triangle_raster.specs.Row.{run_of}
use Rattle.fragment_ops.specs.Frame.{frame_changed}
use Rattle.fragment_ops.specs.State.{AreWithinOne}
use Rattle.triangle_draw.specs.Fragments.{cell_after_all}
use Rattle.triangle_draw.proofs.Putting.{put_none, run_first, run_put}
use Rattle.triangle_draw.proofs.drawing.Drawing.put_run.Goals as goal

pub textured_colour-colour-requires : goal.textured_colour-colour-requires
textured_colour-colour-requires c = record { shades = run_first (λ (f : Fragment). AreWithinOne f.values) c.args.run.now.first c.args.run.now.count (omega arith) c.requires.shades }

pub returns-then-run-eq0 : goal.returns-then-run-eq0
returns-then-run-eq0 c =
    let run = c.args.run.now in
    let none : run.count ≡ 0 = omega arith in
    put_none c.args.self.now c.args.frame.now
    ∙ ap (λ (n : ℕ). frame_changed (cell_after_all c.args.self.now (run_of run.first n)) c.args.frame.now) (sym none)

pub returns : goal.returns
returns c =
    let run = c.args.run.now in
    let in_x : FitsSigned w32 run.first.x = search rules in
    let in_y : FitsSigned w32 run.first.y = search rules in
    c.put_run.ensures
    ∙ run_put c.args.self.now run.first run.count _ _ c.depth_between-depth.result c.textured_colour-colour.result c.args.frame.now
    (to_z-of_z w32 run.first.x in_x) (to_z-of_z w32 run.first.y in_y) c.depth_between-depth.ensures c.textured_colour-colour.ensures
