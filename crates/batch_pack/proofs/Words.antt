-- The bytes of one slot: what is put into it is read back, and what is read from it makes it up.
use Rattle.std.proofs.Common.{◌≡◌, ℕ, zero, suc, ◌+◌, ◌*◌, ◌/◌, ◌%◌, ◌^◌, ◌<◌, ◌≤◌, List, [], ◌∷◌, length, slice_index, take, drop, inl, inr, refl, sym, ap, ◌∙◌, subst, lit<, arith}
use Rattle.std.proofs.lemmas.Bool.{cases_lt}
use Rattle.std.specs.Int.{from_le_bytes, to_le_bytes, w64}
use Rattle.std.specs.List.{AllByRecursion}
use Rattle.std.proofs.lemmas.Nat.{le_bytes_8, from_le_bytes-to_le_bytes_8}
use Rattle.std.proofs.lemmas.List.{get_or-take, get_or-drop, get_or_past, length-drop, length-take}
use Rattle.batch_pack.specs.Spelling.{slot_at}

-- every element of a list is a byte, and so is the zero past its end
abbrev pub AreSmall : List ℕ → Type 0
AreSmall bytes = (place : ℕ) → slice_index bytes place < 256

pub AreSmall-from_bytes : (bytes : List ℕ) → AllByRecursion (λ byte. byte < 256) bytes → AreSmall bytes
AreSmall-from_bytes [] h place = omega arith
AreSmall-from_bytes (byte ∷ bytes) h zero = h.0
AreSmall-from_bytes (byte ∷ bytes) h (suc place) = AreSmall-from_bytes bytes (h.1) place

-- what holds of each number below eight
by_eight : (P : ℕ → Type 0) → P 0 → P 1 → P 2 → P 3 → P 4 → P 5 → P 6 → P 7 → (n : ℕ) → n < 8 → P n
by_eight P p0 p1 p2 p3 p4 p5 p6 p7 zero h = p0
by_eight P p0 p1 p2 p3 p4 p5 p6 p7 (suc zero) h = p1
by_eight P p0 p1 p2 p3 p4 p5 p6 p7 (suc (suc zero)) h = p2
by_eight P p0 p1 p2 p3 p4 p5 p6 p7 (suc (suc (suc zero))) h = p3
by_eight P p0 p1 p2 p3 p4 p5 p6 p7 (suc (suc (suc (suc zero)))) h = p4
by_eight P p0 p1 p2 p3 p4 p5 p6 p7 (suc (suc (suc (suc (suc zero))))) h = p5
by_eight P p0 p1 p2 p3 p4 p5 p6 p7 (suc (suc (suc (suc (suc (suc zero)))))) h = p6
by_eight P p0 p1 p2 p3 p4 p5 p6 p7 (suc (suc (suc (suc (suc (suc (suc zero))))))) h = p7
by_eight P p0 p1 p2 p3 p4 p5 p6 p7 (suc (suc (suc (suc (suc (suc (suc (suc n)))))))) h = absurd (omega arith)

-- lists with the same first eight bytes, counting zeros past the end, make up the same slot
pub from_le_bytes-same : (xs ys : List ℕ) → ((j : ℕ) → j < 8 → slice_index xs j ≡ slice_index ys j) → from_le_bytes w64 xs ≡ from_le_bytes w64 ys
from_le_bytes-same xs ys same =
    let e0 = same 0 (omega arith) in
    let e1 = same 1 (omega arith) in
    let e2 = same 2 (omega arith) in
    let e3 = same 3 (omega arith) in
    let e4 = same 4 (omega arith) in
    let e5 = same 5 (omega arith) in
    let e6 = same 6 (omega arith) in
    let e7 = same 7 (omega arith) in
    omega arith

-- the first eight bytes of a list, written out
abbrev eight : List ℕ → List ℕ
eight xs =
    slice_index xs 0 ∷ slice_index xs 1 ∷ slice_index xs 2 ∷ slice_index xs 3 ∷ slice_index xs 4 ∷ slice_index xs 5 ∷ slice_index xs 6 ∷ slice_index xs 7 ∷ []

eight-small : (xs : List ℕ) → AreSmall xs → AreSmall (eight xs)
eight-small xs small = AreSmall-from_bytes (eight xs) (small 0, (small 1, (small 2, (small 3, (small 4, (small 5, (small 6, (small 7, tt))))))))

-- each byte is read back from the slot
pub byte-from_le_bytes : (xs : List ℕ) (j : ℕ) → AreSmall xs → j < 8 → from_le_bytes w64 xs / 2 ^ (8 * j) % 256 ≡ slice_index xs j
byte-from_le_bytes xs j small below =
    let back = le_bytes_8 (eight xs) (from_le_bytes w64 xs) refl (eight-small xs small) refl in
    let first : from_le_bytes w64 xs / 2 ^ (8 * 0) % 256 ≡ slice_index xs 0 =
    let e = ap (λ (l : List ℕ). slice_index l 0) back in
    omega arith
    in
    by_eight (λ (i : ℕ). from_le_bytes w64 xs / 2 ^ (8 * i) % 256 ≡ slice_index xs i)
    first
    (ap (λ (l : List ℕ). slice_index l 1) back)
    (ap (λ (l : List ℕ). slice_index l 2) back)
    (ap (λ (l : List ℕ). slice_index l 3) back)
    (ap (λ (l : List ℕ). slice_index l 4) back)
    (ap (λ (l : List ℕ). slice_index l 5) back)
    (ap (λ (l : List ℕ). slice_index l 6) back)
    (ap (λ (l : List ℕ). slice_index l 7) back) j below

-- the bytes of a slot make it up
pub from_le_bytes-slot : (xs : List ℕ) (slot : ℕ) → slot < 2 ^ 64 → ((j : ℕ) → j < 8 → slice_index xs j ≡ slot / 2 ^ (8 * j) % 256) → from_le_bytes w64 xs ≡ slot
from_le_bytes-slot xs slot fits each =
    from_le_bytes-same xs (to_le_bytes w64 slot) (λ j below. each j below
    ∙ by_eight (λ (i : ℕ). slot / 2 ^ (8 * i) % 256 ≡ slice_index (to_le_bytes w64 slot) i) (omega arith) refl refl refl refl refl refl refl j below)
    ∙ from_le_bytes-to_le_bytes_8 slot fits

past : (xs : List ℕ) (count : ℕ) → length xs ≤ count → (place : ℕ) → count ≤ place → slice_index xs place ≡ 0
past xs count few place from = get_or_past xs place 0 (omega arith)

-- a slot of few bytes has zeros above them
pub few-from_le_bytes : (xs : List ℕ) (count : ℕ) → AreSmall xs → count < 8 → length xs ≤ count → from_le_bytes w64 xs / 2 ^ (8 * count) ≡ 0
few-from_le_bytes xs count small below few =
    by_eight (λ (i : ℕ). length xs ≤ i → from_le_bytes w64 xs / 2 ^ (8 * i) ≡ 0)
    (λ (few : length xs ≤ 0). omega (arith, past xs 0 few 0 (omega arith), past xs 0 few 1 (omega arith), past xs 0 few 2 (omega arith), past xs 0 few 3 (omega arith), past xs 0 few 4 (omega arith), past xs 0 few 5 (omega arith), past xs 0 few 6 (omega arith), past xs 0 few 7 (omega arith)))
    (λ (few : length xs ≤ 1). omega (arith, small 0, past xs 1 few 1 (omega arith), past xs 1 few 2 (omega arith), past xs 1 few 3 (omega arith), past xs 1 few 4 (omega arith), past xs 1 few 5 (omega arith), past xs 1 few 6 (omega arith), past xs 1 few 7 (omega arith)))
    (λ (few : length xs ≤ 2). omega (arith, small 0, small 1, past xs 2 few 2 (omega arith), past xs 2 few 3 (omega arith), past xs 2 few 4 (omega arith), past xs 2 few 5 (omega arith), past xs 2 few 6 (omega arith), past xs 2 few 7 (omega arith)))
    (λ (few : length xs ≤ 3). omega (arith, small 0, small 1, small 2, past xs 3 few 3 (omega arith), past xs 3 few 4 (omega arith), past xs 3 few 5 (omega arith), past xs 3 few 6 (omega arith), past xs 3 few 7 (omega arith)))
    (λ (few : length xs ≤ 4). omega (arith, small 0, small 1, small 2, small 3, past xs 4 few 4 (omega arith), past xs 4 few 5 (omega arith), past xs 4 few 6 (omega arith), past xs 4 few 7 (omega arith)))
    (λ (few : length xs ≤ 5). omega (arith, small 0, small 1, small 2, small 3, small 4, past xs 5 few 5 (omega arith), past xs 5 few 6 (omega arith), past xs 5 few 7 (omega arith)))
    (λ (few : length xs ≤ 6). omega (arith, small 0, small 1, small 2, small 3, small 4, small 5, past xs 6 few 6 (omega arith), past xs 6 few 7 (omega arith)))
    (λ (few : length xs ≤ 7). omega (arith, small 0, small 1, small 2, small 3, small 4, small 5, small 6, past xs 7 few 7 (omega arith)))
    count below few

-- ---- the slot of the bytes from a place on

pub slice_index-from : (bytes : List ℕ) (place j : ℕ) → j < 8 → slice_index (take 8 (drop place bytes)) j ≡ slice_index bytes (place + j)
slice_index-from bytes place j below = get_or-take 8 (drop place bytes) j 0 below ∙ get_or-drop place bytes j 0

AreSmall-from : (bytes : List ℕ) (place : ℕ) → AreSmall bytes → AreSmall (take 8 (drop place bytes))
AreSmall-from bytes place small j = elim (cases_lt j 8) [
  | inl below ↦ subst (λ (b : ℕ). b < 256) (sym (slice_index-from bytes place j below)) (small (place + j))
  | inr past_end ↦ subst (λ (b : ℕ). b < 256) (sym (get_or_past (take 8 (drop place bytes)) j 0 (omega (arith, length-take 8 (drop place bytes))))) (lit< tt)
]

-- each byte of the slot is that of the list
pub byte-slot_at : (bytes : List ℕ) (place j : ℕ) → AreSmall bytes → j < 8 → slot_at bytes place / 2 ^ (8 * j) % 256 ≡ slice_index bytes (place + j)
unfolding slot_at
byte-slot_at bytes place j small below =
    byte-from_le_bytes (take 8 (drop place bytes)) j (AreSmall-from bytes place small) below ∙ slice_index-from bytes place j below

-- a slot with the bytes of the list is the list's slot
pub slot_at-slot : (bytes : List ℕ) (place slot : ℕ) → slot < 2 ^ 64 → ((j : ℕ) → j < 8 → slice_index bytes (place + j) ≡ slot / 2 ^ (8 * j) % 256) → slot_at bytes place ≡ slot
unfolding slot_at
slot_at-slot bytes place slot fits each =
    from_le_bytes-slot (take 8 (drop place bytes)) slot fits (λ j below. slice_index-from bytes place j below ∙ each j below)

-- where a list has few bytes from the place on, the slot has zeros above them
pub few-slot_at : (bytes : List ℕ) (place count : ℕ) → AreSmall bytes → count < 8 → length bytes ≤ place + count → slot_at bytes place / 2 ^ (8 * count) ≡ 0
unfolding slot_at
few-slot_at bytes place count small below few =
    few-from_le_bytes (take 8 (drop place bytes)) count (AreSmall-from bytes place small) below
    (omega (arith, length-take 8 (drop place bytes), length-drop place bytes))

-- a list with the same bytes from its beginning on makes up the slot
pub slot_at-same : (bytes others : List ℕ) (place : ℕ) → ((j : ℕ) → j < 8 → slice_index bytes (place + j) ≡ slice_index others j) → slot_at bytes place ≡ from_le_bytes w64 others
unfolding slot_at
slot_at-same bytes others place same =
    from_le_bytes-same (take 8 (drop place bytes)) others (λ j below. slice_index-from bytes place j below ∙ same j below)
