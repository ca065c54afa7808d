-- Products of whole numbers: they distribute over sums, and are free of order.
use Rattle.std.proofs.Common.{◌≡◌, ℕ, ◌*◌, ℤ, ◌+ℤ◌, ◌-ℤ◌, ◌*ℤ◌, neg_ℤ, ap, ◌∙◌, arith}
use Rattle.std.proofs.lemmas.Int.{ints}
use borrow.Author.Differences.{up, down, sum_is_lem, neg_is, product_is}

pub product-sum : (a b c : ℤ) → a *ℤ (b +ℤ c) ≡ a *ℤ b +ℤ a *ℤ c
product-sum a b c =
    omega (arith, ints, product_is a (b +ℤ c), product_is a b, product_is a c, ap (λ (n : ℕ). up a * n) (sum_is_lem b c), ap (λ (n : ℕ). down a * n) (sum_is_lem b c))

pub product-negative : (a b : ℤ) → a *ℤ neg_ℤ b ≡ neg_ℤ (a *ℤ b)
product-negative a b =
    omega (arith, ints, product_is a (neg_ℤ b), product_is a b, ap (λ (n : ℕ). up a * n) (neg_is b).0, ap (λ (n : ℕ). up a * n) (neg_is b).1, ap (λ (n : ℕ). down a * n) (neg_is b).0, ap (λ (n : ℕ). down a * n) (neg_is b).1)

pub product-product : (a b c : ℤ) → (a *ℤ b) *ℤ c ≡ a *ℤ (b *ℤ c)
product-product a b c =
    omega (
      arith,
      ints,
      product_is (a *ℤ b) c,
      product_is a (b *ℤ c),
      ap (λ (n : ℕ). n * up c) (product_is a b).0,
      ap (λ (n : ℕ). n * down c) (product_is a b).0,
      ap (λ (n : ℕ). n * up c) (product_is a b).1,
      ap (λ (n : ℕ). n * down c) (product_is a b).1,
      ap (λ (n : ℕ). up a * n) (product_is b c).0,
      ap (λ (n : ℕ). down a * n) (product_is b c).0,
      ap (λ (n : ℕ). up a * n) (product_is b c).1,
      ap (λ (n : ℕ). down a * n) (product_is b c).1,
    )

pub product_swapped : (a b : ℤ) → a *ℤ b ≡ b *ℤ a
product_swapped a b = omega (arith, ints)

pub product-difference : (a b c : ℤ) → a *ℤ (b -ℤ c) ≡ a *ℤ b -ℤ a *ℤ c
product-difference a b c =
    let same : b -ℤ c ≡ b +ℤ neg_ℤ c = omega (arith, ints) in
    ap (λ (z : ℤ). a *ℤ z) same ∙ product-sum a b (neg_ℤ c) ∙ omega (arith, ints, product-negative a c)

pub difference-product : (a b c : ℤ) → (a -ℤ b) *ℤ c ≡ a *ℤ c -ℤ b *ℤ c
difference-product a b c =
    product_swapped (a -ℤ b) c ∙ product-difference c a b ∙ omega (arith, ints)

pub negative-product : (a b : ℤ) → neg_ℤ a *ℤ b ≡ neg_ℤ (a *ℤ b)
negative-product a b = product_swapped (neg_ℤ a) b ∙ product-negative b a ∙ ap neg_ℤ (product_swapped b a)

pub rotated_product : (a b c : ℤ) → (a *ℤ b) *ℤ c ≡ (b *ℤ c) *ℤ a
rotated_product a b c = product-product a b c ∙ product_swapped a (b *ℤ c)
