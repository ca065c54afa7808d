-- What the outside tells at one time: the three objects, and the maker of rails. What an object doesn't tell is none.
use Rattle.std.specs.Prelude.{◌≡◌, ℕ, List, Option}
use Rattle.batch_pack.specs.Spelling.{Spelled}

-- a file: its name and its bytes; own
abbrev pub File : Type 0
File = List ℕ × List ℕ

-- batches, each the calls that it spells, with what was captured for them; own
abbrev pub Batches : Type 0
Batches = List (List Spelled)

-- the batches that were handed over, by the number of the context; own
abbrev pub Journal : Type 0
Journal = ℕ → Option Batches

-- the bytes left in the source, those held by the sink, the files on the shelf and the maker's journal; and how often a read, a write and a put failed; own
pub record World : Type 0 where
  pub left : Option (List ℕ)
  pub held : Option (List ℕ)
  pub files : Option (List File)
  pub journal : Journal
  pub failed_reads : ℕ
  pub failed_writes : ℕ
  pub failed_puts : ℕ

-- what a source, a sink, a shelf and a maker tell, each by its own words; own
abbrev pub world_of : {S K G R : Type 0} → (S → Option (List ℕ)) → (K → Option (List ℕ)) → (G → Option (List File)) → (R → Journal) → (S → ℕ) → (K → ℕ) → (G → ℕ) → S → K → G → R → World
world_of left held list journal reads writes puts source sink shelf rails = record {
  left = left source;
  held = held sink;
  files = list shelf;
  journal = journal rails;
  failed_reads = reads source;
  failed_writes = writes sink;
  failed_puts = puts shelf;
}

-- the counts of failed reads, writes and puts are as they were; own
pub record NothingFailed (before after : World) : Type 0 where
  pub reads : after.failed_reads ≡ before.failed_reads
  pub writes : after.failed_writes ≡ before.failed_writes
  pub puts : after.failed_puts ≡ before.failed_puts
