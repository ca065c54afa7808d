-- How batches are kept in memory, those without slots by their number alone; own. No clause of a public call cites it.
use Rattle.std.specs.Prelude.{◌≡◌, ℕ, ◌≤◌, List, [], ◌∷◌, ◌++◌, take, drop, length, replicate}
use Rattle.batch_pack.specs.Spelling.{Spelled}
use Rattle.batch_pack.specs.Decoding.{calls_in}
use Rattle.batch_pack.specs.Holding.{AreReadable}
use Rattle.batch_rail.specs.declared.stretch.Stretch.{Stretch}

-- how many slots each batch has: those of each stretch, and so many without slots behind; own
abbrev pub counts_of : List Stretch → ℕ → List ℕ
counts_of [] behind = replicate behind 0
counts_of (stretch ∷ stretches) behind = replicate stretch.empty 0 ++ stretch.slots ∷ counts_of stretches behind

-- how many slots each batch has, where so many without slots come first; own
abbrev pub slots_after : ℕ → List Stretch → ℕ → List ℕ
slots_after first [] behind = replicate first 0
slots_after first (stretch ∷ stretches) behind = replicate first 0 ++ stretch.slots ∷ counts_of stretches behind

-- the batches of slots, each of so many, one after another; own
unfoldable pub batches_in : List ℕ → List ℕ → List (List Spelled)
batches_in slots [] = []
batches_in slots (count ∷ counts) = calls_in (take count slots) ∷ batches_in (drop count slots) counts

-- slots are those of batches of so many each, which can be read; own
abbrev pub AreBatches : List ℕ → List ℕ → Type 0
AreBatches slots [] = slots ≡ []
AreBatches slots (count ∷ counts) = (count ≤ length slots) × AreReadable (take count slots) × AreBatches (drop count slots) counts

-- slots are those of batches within a room, and there is memory for as many slots and stretches as there is room; own
pub record IsKept (slots : List ℕ) (stretches : List Stretch) (empty slots_room stretches_room room : ℕ) : Type 0 where
  pub batches : AreBatches slots (counts_of stretches empty)
  pub few : length stretches ≤ length slots
  pub within : length slots ≤ room
  pub slots_reserved : room ≤ slots_room
  pub stretches_reserved : room ≤ stretches_room
