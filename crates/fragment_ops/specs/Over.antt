-- Fragments that are laid over cells by their alpha, for private clauses. What every fragment makes of a cell is told in Cell.antt.
use Rattle.std.specs.Prelude.{◌≡◌, nat_le, true, false, if◌then◌else◌, [], ◌∷◌}
use Rattle.fragment_ops.specs.declared.cell.Cell.{Cell}
use Rattle.fragment_ops.specs.declared.state.FragmentState.{FragmentState}
use Rattle.fragment_ops.specs.Blend.{blended}
use Rattle.fragment_ops.specs.Cell.{Fragment}

-- a fragment is laid over a cell: neither scissor nor alpha test is on, it passes where it isn't deeper, it is blended by its alpha, and no mask is off; own
pub record LaysOver (state : FragmentState) : Type 0 where
  pub unscissored : state.scissor_on ≡ false
  pub no_alpha_test : state.alpha_on ≡ false
  pub depth_test : state.depth_on ≡ true
  pub not_deeper : state.depth_func ≡ 0x203
  pub depth_mask : state.depth_mask ≡ true
  pub blending : state.blend_on ≡ true
  pub by_alpha : state.source_factor ≡ 0x302
  pub by_its_lack : state.dest_factor ≡ 0x303
  pub colour_mask : state.colour_mask ≡ true ∷ true ∷ true ∷ true ∷ []

-- a cell after a fragment was laid over it; sections 4.1.6 and 4.1.7
unfoldable pub cell_laid_over : Fragment → Cell → Cell
cell_laid_over fragment old =
    if nat_le fragment.depth old.depth then record { colour = blended 0x302 0x303 fragment.colour old.colour; depth = fragment.depth } else old
