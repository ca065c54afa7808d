use Rattle.std.proofs.Common.{◌^◌, ℤ, pos, ◌∷◌, [], All, lit<, lit≤}
use Rattle.std.proofs.lemmas.List.Elements.{All-from_recursion}
use Rattle.triangle_raster.specs.Vertex.{IsWithin}
use Rattle.triangle_raster.proofs.Bounds.{as_32}
use Rattle.figure_tests.proofs.raster.corner.Goals as goal

zero_within : IsWithin (2 ^ 27) (pos 0)
zero_within = record { within = lit≤ tt }

one_within : IsWithin (2 ^ 27) (pos 65536)
one_within = record { within = lit≤ tt }

-- a colour, and what a corner carries besides
values_within : {a b c : ℤ} → IsWithin (2 ^ 27) a → IsWithin (2 ^ 27) b → IsWithin (2 ^ 27) c →
    All (IsWithin (2 ^ 27)) (a ∷ b ∷ c ∷ pos 65536 ∷ pos 0 ∷ pos 0 ∷ pos 65536 ∷ pos 0 ∷ pos 0 ∷ pos 65536 ∷ [])
values_within {a} {b} {c} p q r =
    All-from_recursion (IsWithin (2 ^ 27)) (a ∷ b ∷ c ∷ pos 65536 ∷ pos 0 ∷ pos 0 ∷ pos 65536 ∷ pos 0 ∷ pos 0 ∷ pos 65536 ∷ [])
    (p, (q, (r, (one_within, (zero_within, (zero_within, (one_within, (zero_within, (zero_within, (one_within, tt))))))))))

pub returns : goal.returns
returns c = record {
  across = as_32 c.bounded.ensures (lit< tt);
  upward = as_32 c.bounded-2.ensures (lit< tt);
  deep = as_32 c.bounded-3.ensures (lit< tt);
  divisor = as_32 c.bounded-4.ensures (lit< tt);
  carried = values_within (as_32 c.bounded-5.ensures (lit< tt)) (as_32 c.bounded-6.ensures (lit< tt)) (as_32 c.bounded-7.ensures (lit< tt));
}
