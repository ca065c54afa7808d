-- The lines of the report, each with its LF; own. Which lines a report has is told elsewhere.
use Rattle.std.specs.Prelude.{ℕ, ℤ, List, ◌++◌, codes}
use Rattle.std.specs.Fmt.{decimal, signed_decimal}
use Rattle.std.specs.List.{flat_map}

-- integers, each behind a space; own
unfoldable pub integers_text : List ℤ → List ℕ
integers_text numbers = flat_map (λ number. codes " " ++ signed_decimal number) numbers

-- natural numbers, each behind a space; own
unfoldable pub numbers_text : List ℕ → List ℕ
numbers_text numbers = flat_map (λ number. codes " " ++ decimal number) numbers

-- the line of a call's answer: the script line's number, the context, the call's name, and its numbers; own
unfoldable pub answer_line : ℕ → ℕ → List ℕ → List ℤ → List ℕ
answer_line line context name numbers = decimal line ++ (codes " " ++ (decimal context ++ (codes " " ++ (name ++ (integers_text numbers ++ codes "\n")))))

-- the line of a context's counts: of calls deferred, synchronised and answered, and of batches; own
unfoldable pub counts_line : ℕ → List ℕ → List ℕ
counts_line context numbers = codes "counts " ++ (decimal context ++ (numbers_text numbers ++ codes "\n"))

-- the line of a word and a number; own
unfoldable pub number_line : List ℕ → ℕ → List ℕ
number_line word value = word ++ (codes " " ++ (decimal value ++ codes "\n"))

-- a line as it stands; own
unfoldable pub plain_line : List ℕ → List ℕ
plain_line line = line ++ codes "\n"
