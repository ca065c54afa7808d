-- Where a row's fragments are made by sums alone, for private clauses.
use Rattle.std.specs.Prelude.{◌≡◌, ℕ, true}
use Rattle.triangle_raster.specs.declared.rates.Rates.{Rates}

-- depth and so many of the first values are carried, and the others are the same at the three corners
pub record CarriesFirst (count : ℕ) (r : Rates) : Type 0 where
  pub carried : r.carried ≡ true
  pub moving : r.moving ≡ count
