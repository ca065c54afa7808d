use Rattle.std.proofs.Common.{◌≡◌, Bool, true, false, List, [], ◌∷◌, refl, sym, ◌∙◌}
use Rattle.std.proofs.Math.Bool.{beq}
use lib.Pointwise.{pointwise}
use Rattle.fragment_ops.proofs.blend.all_on.Goals as goal

-- a list that is the same as one of four trues, each compared with the other
four_true : (mask : List Bool) → pointwise beq mask (true ∷ true ∷ true ∷ true ∷ []) ≡ true → mask ≡ true ∷ true ∷ true ∷ true ∷ []
four_true [] same = cc
four_true (false ∷ mask) same = cc
four_true (true ∷ []) same = cc
four_true (true ∷ false ∷ mask) same = cc
four_true (true ∷ true ∷ []) same = cc
four_true (true ∷ true ∷ false ∷ mask) same = cc
four_true (true ∷ true ∷ true ∷ []) same = cc
four_true (true ∷ true ∷ true ∷ false ∷ mask) same = cc
four_true (true ∷ true ∷ true ∷ true ∷ []) same = refl
four_true (true ∷ true ∷ true ∷ true ∷ part ∷ mask) same = cc

pub returns : goal.returns
returns c = λ on. four_true c.args.mask (sym c.eq.ensures ∙ on)
