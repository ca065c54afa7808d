-- What several calls on one object do, from what each did: for a caller's loop over `read`, `write` or `put`.
-- A caller names the ruleset `outside` in the attribute of its function.
use Rattle.std.proofs.Common.{◌≡◌, ℕ, ◌+◌, ◌≤◌, List, [], ◌++◌, take, drop, Option, None, Some, IfSome, refl, ap, sym, subst, ◌∙◌, arith}
use Rattle.std.proofs.lemmas.List.{append-nil, append_assoc}
use Rattle.std.proofs.Math.Seq.{take-add}
use Rattle.gl_outside.specs.Faults.{Rose}
use Rattle.gl_outside.specs.Moved.{Takes, Adds, IsAtEnd}

-- a count that rose and didn't fall later
pub rose_before : (a b c : ℕ) → Rose a b → b ≤ c → Rose a c
rose_before a b c rose later = grind arith

-- a count that didn't fall and rose later
pub rose_after : (a b c : ℕ) → a ≤ b → Rose b c → Rose a c
rose_after a b c later rose = grind arith

-- a call that takes nothing
pub Takes-nil : {X : Type 0} (a : Option (List X)) → Takes a a []
unfolding Takes
Takes-nil None = tt
Takes-nil (Some left) = refl

-- two calls take what the first took, and then what the second took
pub Takes-append : {X : Type 0} (a b c : Option (List X)) (xs ys : List X) → Takes a b xs → Takes b c ys → Takes a c (xs ++ ys)
unfolding Takes
Takes-append None b c xs ys first second = tt
Takes-append (Some left) None c xs ys first second = absurd first
Takes-append (Some left) (Some mid) None xs ys first second = absurd second
Takes-append (Some left) (Some mid) (Some rest) xs ys first second =
    first ∙ ap (λ l. xs ++ l) second ∙ sym (append_assoc xs ys rest)

-- a last call that took nothing
pub Takes-last : {X : Type 0} (a b c : Option (List X)) (xs : List X) → Takes a b xs → Takes b c [] → Takes a c xs
Takes-last {X} a b c xs first second =
    let P : List X → Type 0 = λ l. Takes a c l in subst P (append-nil xs) (Takes-append a b c xs [] first second)

-- where nothing is left, all that was left was taken
pub Takes-whole : {X : Type 0} (a b : Option (List X)) (xs : List X) → Takes a b xs → IsAtEnd b → IfSome a (λ left. left ≡ xs)
unfolding Takes
Takes-whole None b xs taken end = tt
Takes-whole (Some left) None xs taken end = absurd taken
Takes-whole (Some left) (Some rest) xs taken end = taken ∙ ap (λ l. xs ++ l) end ∙ append-nil xs

-- a call that adds nothing
pub Adds-nil : {X : Type 0} (a : Option (List X)) → Adds a a []
unfolding Adds
Adds-nil None = tt
Adds-nil (Some held) = ap Some (sym (append-nil held))

-- two calls add what the first added, and then what the second added
pub Adds-append : {X : Type 0} (a b c : Option (List X)) (xs ys : List X) → Adds a b xs → Adds b c ys → Adds a c (xs ++ ys)
unfolding Adds
Adds-append None b c xs ys first second = tt
Adds-append {X} (Some held) b c xs ys first second =
    let P : Option (List X) → Type 0 = λ o. Adds o c ys in
    subst P first second ∙ ap Some (append_assoc held xs ys)

-- the next of these were added behind the first of them
pub Adds-take : {X : Type 0} (a b c : Option (List X)) (n m : ℕ) (xs : List X) → Adds a b (take n xs) → Adds b c (take m (drop n xs)) → Adds a c (take (n + m) xs)
Adds-take {X} a b c n m xs first second =
    let P : List X → Type 0 = λ l. Adds a c l in subst P (sym (take-add n m xs)) (Adds-append a b c _ _ first second)

-- what several calls on one object do: taken whole, by the attribute of a function that makes the calls
pub ruleset outside = (rose_before, rose_after, Takes-nil, Takes-append, Takes-last, Takes-whole, Adds-nil, Adds-append, Adds-take)
