-- Images that are put one after another.
use Rattle.std.proofs.Common.{◌≡◌, ℕ, ◌+◌, ◌<◌, List, [], ◌∷◌, ◌++◌, length, get_or, take, Option, sym, subst, ap, ◌∙◌}
use Rattle.std.proofs.lemmas.List.{take_more}
use Rattle.gl_outside.specs.Moved.{Adds}
use Rattle.gl_outside.proofs.Outside.{Adds-append}

-- where the next of some images was put behind the first of them
pub Adds-take_more : (a b c : Option (List (List ℕ × List ℕ))) (images : List (List ℕ × List ℕ)) (n at : ℕ) (image : List ℕ × List ℕ) (name bytes : List ℕ) → n ≡ at → at < length images → image ≡ get_or images at image → name ≡ image.0 → bytes ≡ image.1 → Adds a b (take n images) → Adds b c ((name, bytes) ∷ []) → Adds a c (take (n + 1) images)
Adds-take_more a b c images n at image name bytes is_at inside is_image is_name are_bytes first second =
    let P : List (List ℕ × List ℕ) → Type 0 = λ l. Adds a c l in
    let here : n < length images = subst (λ (k : ℕ). k < length images) (sym is_at) inside in
    let whole : (name, bytes) ≡ image = ap (λ (x : List ℕ). (x, bytes)) is_name ∙ ap (λ (x : List ℕ). (image.0, x)) are_bytes in
    let found : get_or images n image ≡ (name, bytes) = ap (λ (k : ℕ). get_or images k image) is_at ∙ (sym is_image ∙ sym whole) in
    let next : take (n + 1) images ≡ take n images ++ (name, bytes) ∷ [] = take_more images n image here ∙ ap (λ (x : List ℕ × List ℕ). take n images ++ x ∷ []) found in
    subst P (sym next) (Adds-append a b c (take n images) ((name, bytes) ∷ []) first second)
