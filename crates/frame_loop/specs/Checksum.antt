-- A number by which frames can be told apart; own.
use Rattle.std.specs.Prelude.{ℕ, ◌+◌, ◌*◌, ◌%◌, List, fold}
use Rattle.fragment_ops.specs.declared.cell.Cell.{Cell}

-- a checksum with a byte more; own. 4,294,967,291 is the largest prime below 2^32
unfoldable pub with_byte : ℕ → ℕ → ℕ
with_byte sum byte = (sum * 65537 + byte + 1) % 4294967291

-- a checksum with a pixel more; own
abbrev pub with_pixel : ℕ → List ℕ → ℕ
with_pixel sum pixel = fold with_byte sum pixel

-- the checksum of the colours of cells; own
abbrev pub checksum_of : List Cell → ℕ
checksum_of cells = fold (λ sum cell. with_pixel sum cell.colour) 0 cells
