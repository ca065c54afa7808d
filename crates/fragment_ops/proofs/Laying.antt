-- A fragment that is laid over a cell by its alpha leaves what every fragment in such a state does; cells that are read and written in place.
use Rattle.std.proofs.Common.{◌≡◌, ℕ, ◌+◌, ◌*◌, ◌<◌, true, List, [], ◌∷◌, length, get_or, set, refl, sym, ap, ◌∙◌, arith}
use Rattle.std.proofs.lemmas.List.{get_or_default}
use Rattle.fragment_ops.specs.declared.cell.Cell.{Cell}
use Rattle.fragment_ops.specs.declared.place.Place.{Place}
use Rattle.fragment_ops.specs.declared.state.FragmentState.{FragmentState}
use Rattle.fragment_ops.specs.Blend.{blended, masked}
use Rattle.fragment_ops.specs.Cell.{Fragment, cell_after_put, cell_written}
use Rattle.fragment_ops.specs.Comparison.{compares}
use Rattle.fragment_ops.specs.Frame.{FrameView, cell_at, first_cell}
use Rattle.fragment_ops.specs.Over.{LaysOver, cell_laid_over}
use Rattle.fragment_ops.proofs.Keeping.{masked-all_on}

pub cell_after_put-laid_over : (state : FragmentState) (place : Place) (fragment : Fragment) (old : Cell) → LaysOver state
    → cell_after_put place state fragment old ≡ cell_laid_over fragment old
unfolding cell_after_put cell_written cell_laid_over masked blended compares
cell_after_put-laid_over state place fragment old lays =
    rw (
      lays.unscissored,
      lays.no_alpha_test,
      lays.depth_test,
      lays.not_deeper,
      lays.depth_mask,
      lays.blending,
      lays.by_alpha,
      lays.by_its_lack,
      lays.colour_mask,
    ) refl

-- a colour whose parts are written one by one is the new one
pub four_written : (old new : List ℕ) → length old ≡ 4 → length new ≡ 4
    → set (set (set (set old 0 (get_or new 0 0)) 1 (get_or new 1 0)) 2 (get_or new 2 0)) 3 (get_or new 3 0) ≡ new
unfolding masked
four_written [] new four as_many = absurd (omega arith)
four_written (a ∷ []) new four as_many = absurd (omega arith)
four_written (a ∷ b ∷ []) new four as_many = absurd (omega arith)
four_written (a ∷ b ∷ c ∷ []) new four as_many = absurd (omega arith)
four_written (a ∷ b ∷ c ∷ d ∷ []) new four as_many = sym (masked-all_on (true ∷ true ∷ true ∷ true ∷ []) new new as_many refl)
four_written (a ∷ b ∷ c ∷ d ∷ e ∷ more) new four as_many = absurd (omega arith)

-- a cell that is read at a place of a frame
pub cell_at-read : (frame : FrameView) (place : Place) (at : ℕ) (cell : Cell) → at ≡ place.row * frame.width + place.column → at < length frame.cells
    → cell ≡ get_or frame.cells at cell → cell ≡ cell_at frame place
unfolding cell_at
cell_at-read frame place at cell there inside is = is ∙ get_or_default frame.cells at cell first_cell inside ∙ ap (λ (n : ℕ). get_or frame.cells n first_cell) there
