-- What a stack is seen as, where its top is written, a matrix put on it or taken off.
use Rattle.std.proofs.Common.{◌≡◌, ◌≢◌, ℕ, zero, suc, ◌+◌, ◌-◌, ◌<◌, ◌≤◌, List, [], ◌∷◌, length, get_or, set, refl, sym, ap, subst, ◌∙◌, arith, get_or-set_other, get_or-set_same}
use Rattle.fixed_transform.specs.declared.matrix.Matrix.{Matrix}
use Rattle.fixed_transform.specs.Matrix.{identity}
use Rattle.fixed_transform.specs.Stack.{below_top, stacked, top_of}

pub length-stacked : (ms : List Matrix) (k : ℕ) → length (stacked ms k) ≡ k
length-stacked ms zero = refl
length-stacked ms (suc k) = ap suc (length-stacked ms k)

-- a read in a list doesn't depend on what a read past its end gives
pub read_inside : (ms : List Matrix) (k : ℕ) (d e : Matrix) → k < length ms → get_or ms k d ≡ get_or ms k e
read_inside [] k d e h = absurd (omega arith)
read_inside (m ∷ ms) zero d e h = refl
read_inside (m ∷ ms) (suc k) d e h = read_inside ms k d e (omega arith)

-- what is written at a place above the first n is not seen among them
pub stacked-set : (ms : List Matrix) (n k : ℕ) (m : Matrix) → n ≤ k → stacked (set ms k m) n ≡ stacked ms n
stacked-set ms zero k m h = refl
stacked-set ms (suc n) k m h =
    let other : n ≢ k = omega arith in
    let rest : stacked (set ms k m) n ≡ stacked ms n = stacked-set ms n k m (omega arith) in
    let same : get_or (set ms k m) n identity ≡ get_or ms n identity = rw get_or-set_other refl in
    cc

-- the top one is replaced
pub stacked-set_top : (ms : List Matrix) (depth : ℕ) (m : Matrix) → 1 ≤ depth → depth ≤ length ms → stacked (set ms (depth - 1) m) depth ≡ m ∷ below_top (stacked ms depth)
stacked-set_top ms zero m some h = absurd (omega arith)
stacked-set_top ms (suc k) m some h =
    let same : suc k - 1 ≡ k = omega arith in
    let inside : k < length ms = omega arith in
    let rest : stacked (set ms k m) k ≡ stacked ms k = stacked-set ms k k m (omega arith) in
    let top : get_or (set ms k m) k identity ≡ m = rw get_or-set_same refl in
    subst (λ (at : ℕ). stacked (set ms at m) (suc k) ≡ m ∷ stacked ms k) (sym same)
    (ap (λ (x : Matrix). x ∷ stacked (set ms k m) k) top ∙ ap (λ (xs : List Matrix). m ∷ xs) rest)

-- a copy of the top one is put on it
pub stacked-pushed : (ms : List Matrix) (depth : ℕ) (d : Matrix) → 1 ≤ depth → depth < length ms →
    stacked (set ms depth (get_or ms (depth - 1) d)) (depth + 1) ≡ top_of (stacked ms depth) ∷ stacked ms depth
stacked-pushed ms zero d some h = absurd (omega arith)
stacked-pushed ms (suc k) d some h =
    let same : suc k - 1 ≡ k = omega arith in
    let more : suc k + 1 ≡ suc (suc k) = omega arith in
    let inside : suc k < length ms = omega arith in
    let rest : stacked (set ms (suc k) (get_or ms k d)) (suc k) ≡ stacked ms (suc k) = stacked-set ms (suc k) (suc k) (get_or ms k d) (omega arith) in
    let top : get_or (set ms (suc k) (get_or ms k d)) (suc k) identity ≡ get_or ms k d = rw get_or-set_same refl in
    let read : get_or ms k d ≡ get_or ms k identity = read_inside ms k d identity (omega arith) in
    rw (same, more) (ap (λ (x : Matrix). x ∷ stacked (set ms (suc k) (get_or ms k d)) (suc k)) (top ∙ read) ∙ ap (λ (xs : List Matrix). get_or ms k identity ∷ xs) rest)
