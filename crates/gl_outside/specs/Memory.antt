-- What a contract sees of the forms in memory that fail at chosen calls.
-- Where in a buffer the bytes lie, no contract sees.
use Rattle.std.specs.Prelude.{ℕ, Bool, if◌then◌else◌, ◌==◌, List}
use Rattle.std.specs.List.{list_any}
use Rattle.gl_outside.specs.Faults.{one_more}

-- the numbers of the calls that fail, from 0; how many calls were made; and how many of them failed; own
pub record Plan : Type 0 where
  pub fails : List ℕ
  pub made : ℕ
  pub faults : ℕ

-- whether the next call is one of those that fail; own
abbrev pub fails_next : Plan → Bool
fails_next plan = list_any (λ number. number == plan.made) plan.fails

-- the plan after the next call: one more was made, and one more failed if it was to fail; own
abbrev pub after_call : Plan → Plan
after_call plan =
    record plan { made = one_more plan.made; faults = if fails_next plan then one_more plan.faults else plan.faults }

-- what is left, the most bytes that one call moves, and the calls; own
pub record SourceView : Type 0 where
  pub left : List ℕ
  pub most : ℕ
  pub plan : Plan

-- what is held, the most bytes that one call moves, and the calls; own
pub record SinkView : Type 0 where
  pub held : List ℕ
  pub most : ℕ
  pub plan : Plan

-- the names and bytes that were put, in order, and the calls; own
pub record ShelfView : Type 0 where
  pub list : List (List ℕ × List ℕ)
  pub plan : Plan
