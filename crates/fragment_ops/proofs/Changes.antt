-- Cells that are changed one by one, each by how many come before it: how many they are, which one stands where, and changes made one after another.
use Rattle.std.proofs.Common.{◌≡◌, ◌≢◌, ℕ, zero, suc, ◌+◌, ◌<◌, ◌≤◌, List, [], ◌∷◌, length, get_or, set, refl, sym, ap, ◌∙◌, arith}
use Rattle.fragment_ops.specs.declared.cell.Cell.{Cell}
use Rattle.fragment_ops.specs.Frame.{changed_from}

pub length-changed_from : (change : ℕ → Cell → Cell) (before : ℕ) (cells : List Cell) → length (changed_from change before cells) ≡ length cells
unfolding changed_from
length-changed_from change before [] = refl
length-changed_from change before (cell ∷ cells) = ap suc (length-changed_from change (suc before) cells)

pub get_or-changed_from : (change : ℕ → Cell → Cell) (before : ℕ) (cells : List Cell) (at : ℕ) (d : Cell) → at < length cells
    → get_or (changed_from change before cells) at d ≡ change (before + at) (get_or cells at d)
unfolding changed_from
get_or-changed_from change before [] at d inside = absurd (omega arith)
get_or-changed_from change before (cell ∷ cells) zero d inside =
    let first : before ≡ before + 0 = omega arith in
    ap (λ (n : ℕ). change n cell) first
get_or-changed_from change before (cell ∷ cells) (suc at) d inside =
    let next : suc before + at ≡ before + suc at = omega arith in
    get_or-changed_from change (suc before) cells at d (omega arith) ∙ ap (λ (n : ℕ). change n (get_or cells at d)) next

-- two changes that are the same at each of the cells
pub changed_from-same : (f g : ℕ → Cell → Cell) (before : ℕ) (cells : List Cell)
    → ((at : ℕ) (cell : Cell) → before ≤ at → at < before + length cells → f at cell ≡ g at cell)
    → changed_from f before cells ≡ changed_from g before cells
unfolding changed_from
changed_from-same f g before [] same = refl
changed_from-same f g before (cell ∷ cells) same =
    ap (λ (first : Cell). first ∷ changed_from f (suc before) cells) (same before cell (omega arith) (omega arith))
    ∙ ap (λ (rest : List Cell). g before cell ∷ rest) (changed_from-same f g (suc before) cells (λ at c from to. same at c (omega arith) (omega arith)))

-- a change after another one
pub changed_from-twice : (f g : ℕ → Cell → Cell) (before : ℕ) (cells : List Cell)
    → changed_from g before (changed_from f before cells) ≡ changed_from (λ at cell. g at (f at cell)) before cells
unfolding changed_from
changed_from-twice f g before [] = refl
changed_from-twice f g before (cell ∷ cells) = ap (λ (rest : List Cell). g before (f before cell) ∷ rest) (changed_from-twice f g (suc before) cells)

-- a change that leaves each of the cells
pub changed_from-kept : (f : ℕ → Cell → Cell) (before : ℕ) (cells : List Cell)
    → ((at : ℕ) (cell : Cell) → before ≤ at → at < before + length cells → f at cell ≡ cell)
    → cells ≡ changed_from f before cells
unfolding changed_from
changed_from-kept f before [] kept = refl
changed_from-kept f before (cell ∷ cells) kept =
    ap (λ (first : Cell). first ∷ cells) (sym (kept before cell (omega arith) (omega arith)))
    ∙ ap (λ (rest : List Cell). f before cell ∷ rest) (changed_from-kept f (suc before) cells (λ at c from to. kept at c (omega arith) (omega arith)))

-- one cell that is written, where the change leaves all others
pub set-changed_from : (f : ℕ → Cell → Cell) (before : ℕ) (cells : List Cell) (at : ℕ) (d new : Cell) → at < length cells
    → new ≡ f (before + at) (get_or cells at d)
    → ((k : ℕ) (cell : Cell) → k ≢ before + at → f k cell ≡ cell)
    → set cells at new ≡ changed_from f before cells
unfolding changed_from
set-changed_from f before [] at d new inside written kept = absurd (omega arith)
set-changed_from f before (cell ∷ cells) zero d new inside written kept =
    let first : before + 0 ≡ before = omega arith in
    ap (λ (c : Cell). c ∷ cells) (written ∙ ap (λ (n : ℕ). f n cell) first)
    ∙ ap (λ (rest : List Cell). f before cell ∷ rest) (changed_from-kept f (suc before) cells (λ k c from to. kept k c (λ same. absurd (omega arith))))
set-changed_from f before (cell ∷ cells) (suc at) d new inside written kept =
    let next : before + suc at ≡ suc before + at = omega arith in
    ap (λ (c : Cell). c ∷ set cells at new) (sym (kept before cell (λ same. absurd (omega arith))))
    ∙ ap (λ (rest : List Cell). f before cell ∷ rest)
    (set-changed_from f (suc before) cells at d new (omega arith) (written ∙ ap (λ (n : ℕ). f n (get_or cells at d)) next) (λ k c other. kept k c (λ same. other (same ∙ next))))
