-- Bytes that stay at the front of others, which are written behind them.
use Rattle.std.proofs.Common.{◌≡◌, ℕ, List, ◌++◌, length, take, drop, refl, sym, ap, ◌∙◌}
use Rattle.std.proofs.lemmas.List.{append_assoc, take_at, take-append-drop}

-- some bytes begin with others
abbrev pub BeginsWith : List ℕ → List ℕ → Type 0
BeginsWith old bytes = (more : List ℕ) × (bytes ≡ old ++ more)

pub begins_more : (old bytes next more : List ℕ) → BeginsWith old bytes → next ≡ bytes ++ more → BeginsWith old next
begins_more old bytes next more begins is = (begins.0 ++ more, is ∙ ap (λ (xs : List ℕ). xs ++ more) (begins.1) ∙ append_assoc old (begins.0) more)

-- what is kept of bytes that begin with others has these at its front
pub kept_on : (old bytes next : List ℕ) → BeginsWith old bytes → take (length bytes) next ≡ bytes → take (length old) next ≡ old
kept_on old bytes next begins kept =
    let rest = drop (length bytes) next in
    ap (take (length old)) (sym (take-append-drop (length bytes) next) ∙ ap (λ (xs : List ℕ). xs ++ rest) (kept ∙ begins.1) ∙ append_assoc old (begins.0) rest)
    ∙ take_at old (begins.0 ++ rest) (length old) refl
