-- What a rectangle that is read holds: a row pixel by pixel, and the zeros beside the frame.
use Rattle.std.proofs.Common.{◌≡◌, ℕ, zero, suc, ◌+◌, ◌-◌, ◌*◌, ◌<◌, ◌≤◌, ℤ, pos, negsuc, ◌+ℤ◌, ◌<ℤ◌, ◌≤ℤ◌, inl, inr, List, [], ◌++◌, length, get_or, replicate, refl, sym, ap, ◌∙◌, subst, append_assoc, arith}
use Rattle.std.specs.List.{flat_map, range_with_len}
use Rattle.std.proofs.lemmas.Bool.{cases_lt}
use Rattle.std.proofs.lemmas.Bool.Decides.{nat_tests}
use Rattle.std.proofs.lemmas.Int.{ints}
use Rattle.std.proofs.lemmas.List.{append-nil, get_or_default, replicate-append-replicate}
use Rattle.fragment_ops.specs.declared.cell.Cell.{Cell}
use Rattle.fragment_ops.specs.Frame.{FrameView, IsFrame, cell_at, first_cell, no_colour, pixel_at}
use Rattle.soft_driver.specs.Pixels.{bytes_read, row_read}
use Rattle.soft_driver.specs.Reading.{columns_read, Divides}

-- how many columns lie left of column 0, and how many left of the end of the frame, divide a row
module _ (x : ℤ) (side width first until : ℕ)
    (few : until ≤ width) (first_few : first ≤ width)
    (left : (at : ℕ) → at < first → (x +ℤ pos at) <ℤ pos 0) (after_left : (at : ℕ) → first ≤ at → at < width → pos 0 ≤ℤ (x +ℤ pos at))
    (before_right : (at : ℕ) → at < until → (x +ℤ pos at) <ℤ pos side) (right : (at : ℕ) → until ≤ at → at < width → pos side ≤ℤ (x +ℤ pos at)) where
  in_order : first ≤ until
  in_order = elim (cases_lt until first) [
    | inl less ↦ absurd (omega (arith, ints, left until less, right until (omega arith) (omega arith)))
    | inr ordered ↦ ordered
  ]

  divides_at : Divides x side width first until
  divides_at = record {
    ordered = in_order;
    within = few;
    left = left;
    inside = λ at from to. record { low = after_left at from (omega arith); high = before_right at to };
    right = right;
  }

pub divides : (x y : ℤ) (side width first until : ℕ) → y ≡ x → until ≤ width → first ≤ width
    → ((at : ℕ) → at < first → (y +ℤ pos at) <ℤ pos 0) → ((at : ℕ) → first ≤ at → at < width → pos 0 ≤ℤ (y +ℤ pos at))
    → ((at : ℕ) → at < until → (y +ℤ pos at) <ℤ pos side) → ((at : ℕ) → until ≤ at → at < width → pos side ≤ℤ (y +ℤ pos at))
    → Divides x side width first until
divides x y side width first until same few first_few left after_left before_right right =
    subst (λ (z : ℤ). Divides z side width first until) same (divides_at y side width first until few first_few left after_left before_right right)

-- a list made of a piece for each number of a range
module _ (f : ℕ → List ℕ) where
  pieces-suc : (a n at : ℕ) → a + n ≡ at → flat_map f (range_with_len a (suc n)) ≡ flat_map f (range_with_len a n) ++ f at
  pieces-suc a zero at h = let same : a ≡ at = omega arith in append-nil (f a) ∙ ap f same
  pieces-suc a (suc n) at h =
      ap (λ (rest : List ℕ). f a ++ rest) (pieces-suc (a + 1) n at (omega arith))
      ∙ sym (append_assoc (f a) (flat_map f (range_with_len (a + 1) n)) (f at))

  pieces-more : (a n at : ℕ) → a + n ≡ at → flat_map f (range_with_len a (n + 1)) ≡ flat_map f (range_with_len a n) ++ f at
  pieces-more a n at h =
      let one_more : n + 1 ≡ suc n = omega arith in
      ap (λ (count : ℕ). flat_map f (range_with_len a count)) one_more ∙ pieces-suc a n at h

  pieces-parts : (a m n next : ℕ) → a + m ≡ next → flat_map f (range_with_len a (m + n)) ≡ flat_map f (range_with_len a m) ++ flat_map f (range_with_len next n)
  pieces-parts a zero n next h =
      let same : a ≡ next = omega arith in
      let none : 0 + n ≡ n = omega arith in
      ap (λ (count : ℕ). flat_map f (range_with_len a count)) none ∙ ap (λ (b : ℕ). flat_map f (range_with_len b n)) same
  pieces-parts a (suc m) n next h =
      let one_more : suc m + n ≡ suc (m + n) = omega arith in
      ap (λ (count : ℕ). flat_map f (range_with_len a count)) one_more
      ∙ ap (λ (rest : List ℕ). f a ++ rest) (pieces-parts (a + 1) m n next (omega arith))
      ∙ sym (append_assoc (f a) (flat_map f (range_with_len (a + 1) m)) (flat_map f (range_with_len next n)))

  pieces-zeros : (a n : ℕ) → ((at : ℕ) → a ≤ at → at < a + n → f at ≡ no_colour) → flat_map f (range_with_len a n) ≡ replicate (4 * n) 0
  pieces-zeros a zero none = refl
  pieces-zeros a (suc n) none =
      let four : 4 + 4 * n ≡ 4 * suc n = omega arith in
      ap (λ (piece : List ℕ). piece ++ flat_map f (range_with_len (a + 1) n)) (none a (omega arith) (omega arith))
      ∙ ap (λ (rest : List ℕ). no_colour ++ rest) (pieces-zeros (a + 1) n (λ at from to. none at (omega arith) (omega arith)))
      ∙ replicate-append-replicate 4 (4 * n) 0
      ∙ ap (λ (count : ℕ). replicate count 0) four

-- a place of a rectangle is below the count of its places
place_below : (row column width height : ℕ) → column < width → row < height → row * width + column < width * height
place_below row column width height in_width in_height = grind arith

module _ (frame : FrameView) where
  -- outside the frame there are zeros: left of it, right of it, below it and above it
  pixel_at-left : (column row : ℤ) → column <ℤ pos 0 → pixel_at frame column row ≡ no_colour
  pixel_at-left (negsuc n) row h = refl
  pixel_at-left (pos n) row h = absurd (omega (arith, ints))

  pixel_at-right : (column row : ℤ) → pos frame.width ≤ℤ column → pixel_at frame column row ≡ no_colour
  pixel_at-right (negsuc n) row h = refl
  pixel_at-right (pos n) (negsuc m) h = refl
  pixel_at-right (pos n) (pos m) h = grind (arith, nat_tests, ints)

  pixel_at-below : (column row : ℤ) → row <ℤ pos 0 → pixel_at frame column row ≡ no_colour
  pixel_at-below (negsuc n) row h = refl
  pixel_at-below (pos n) (negsuc m) h = refl
  pixel_at-below (pos n) (pos m) h = absurd (omega (arith, ints))

  pixel_at-above : (column row : ℤ) → pos frame.height ≤ℤ row → pixel_at frame column row ≡ no_colour
  pixel_at-above (negsuc n) row h = refl
  pixel_at-above (pos n) (negsuc m) h = refl
  pixel_at-above (pos n) (pos m) h = grind (arith, nat_tests, ints)

  -- inside it there are the colours of its cells
  pixel_at-inside : (column row : ℕ) → column < frame.width → row < frame.height → pixel_at frame (pos column) (pos row) ≡ (get_or frame.cells (row * frame.width + column) first_cell).colour
  unfolding cell_at
  pixel_at-inside column row in_width in_height = grind (arith, nat_tests)

  cell_inside : (column row : ℕ) → IsFrame frame → column < frame.width → row < frame.height → row * frame.width + column < length frame.cells
  cell_inside column row whole in_width in_height = subst (λ (count : ℕ). row * frame.width + column < count) (sym whole.count) (place_below row column frame.width frame.height in_width in_height)

  -- a cell that was read has the pixel of its place
  pub pixel_at-read : (cells : List Cell) (column row : ℕ) (d : Cell) → IsFrame frame → cells ≡ frame.cells → column < frame.width → row < frame.height
      → (get_or cells (row * frame.width + column) d).colour ≡ pixel_at frame (pos column) (pos row)
  pixel_at-read cells column row d whole same in_width in_height =
      ap (λ (c : List Cell). (get_or c (row * frame.width + column) d).colour) same
      ∙ ap (λ (cell : Cell). cell.colour) (get_or_default frame.cells (row * frame.width + column) d first_cell (cell_inside column row whole in_width in_height))
      ∙ sym (pixel_at-inside column row in_width in_height)

  module _ (x row : ℤ) where
    -- one more column
    pub columns_read-more : (first n at : ℕ) → first + n ≡ at → columns_read frame x row first (n + 1) ≡ columns_read frame x row first n ++ pixel_at frame (x +ℤ pos at) row
    unfolding columns_read
    columns_read-more first n at h = pieces-more (λ column. pixel_at frame (x +ℤ pos column) row) first n at h

    -- bytes and the columns so far: none yet, and with the pixel of one more
    pub columns_read-begun : (old : List ℕ) (first : ℕ) → old ≡ old ++ columns_read frame x row first (first - first)
    unfolding columns_read
    columns_read-begun old first =
        let none : 0 ≡ first - first = omega arith in
        sym (append-nil old) ∙ ap (λ (count : ℕ). old ++ flat_map (λ column. pixel_at frame (x +ℤ pos column) row) (range_with_len first count)) none

    pub columns_read-step : (old : List ℕ) (first at : ℕ) → first ≤ at
        → (old ++ columns_read frame x row first (at - first)) ++ pixel_at frame (x +ℤ pos at) row ≡ old ++ columns_read frame x row first (at + 1 - first)
    columns_read-step old first at from =
        let one_more : (at - first) + 1 ≡ at + 1 - first = omega arith in
        append_assoc old (columns_read frame x row first (at - first)) (pixel_at frame (x +ℤ pos at) row)
        ∙ ap (λ (columns : List ℕ). old ++ columns) (sym (columns_read-more first (at - first) at (omega arith)))
        ∙ ap (λ (count : ℕ). old ++ columns_read frame x row first count) one_more

    -- a row that lies below the frame or above it
    pub row_read-below : (width : ℕ) → row <ℤ pos 0 → row_read frame x row width ≡ replicate (4 * width) 0
    unfolding row_read
    row_read-below width h = pieces-zeros (λ column. pixel_at frame (x +ℤ pos column) row) 0 width (λ at from to. pixel_at-below (x +ℤ pos at) row h)

    pub row_read-above : (width : ℕ) → pos frame.height ≤ℤ row → row_read frame x row width ≡ replicate (4 * width) 0
    unfolding row_read
    row_read-above width h = pieces-zeros (λ column. pixel_at frame (x +ℤ pos column) row) 0 width (λ at from to. pixel_at-above (x +ℤ pos at) row h)

    -- a row in its three parts
    pub row_read-parts : (width first until : ℕ) → Divides x frame.width width first until
        → row_read frame x row width ≡ (replicate (4 * first) 0 ++ columns_read frame x row first (until - first)) ++ replicate (4 * (width - until)) 0
    unfolding row_read columns_read
    row_read-parts width first until divided =
        let piece : ℕ → List ℕ = λ column. pixel_at frame (x +ℤ pos column) row in
        let ordered = divided.ordered in
        let within = divided.within in
        let all : width ≡ until + (width - until) = omega arith in
        let middle : until ≡ first + (until - first) = omega arith in
        ap (λ (count : ℕ). flat_map piece (range_with_len 0 count)) all
        ∙ pieces-parts piece 0 until (width - until) until (omega arith)
        ∙ ap (λ (part : List ℕ). part ++ flat_map piece (range_with_len until (width - until)))
        (ap (λ (count : ℕ). flat_map piece (range_with_len 0 count)) middle ∙ pieces-parts piece 0 first (until - first) first (omega arith))
        ∙ ap (λ (part : List ℕ). (flat_map piece (range_with_len 0 first) ++ flat_map piece (range_with_len first (until - first))) ++ part)
        (pieces-zeros piece until (width - until) (λ at from to. pixel_at-right (x +ℤ pos at) row (divided.right at from (omega arith))))
        ∙ ap (λ (part : List ℕ). (part ++ flat_map piece (range_with_len first (until - first))) ++ replicate (4 * (width - until)) 0)
        (pieces-zeros piece 0 first (λ at from to. pixel_at-left (x +ℤ pos at) row (divided.left at (omega arith))))

    -- bytes and a row in its three parts
    pub row_read-added : (old : List ℕ) (width first until : ℕ) → Divides x frame.width width first until
        → ((old ++ replicate (4 * first) 0) ++ columns_read frame x row first (until - first)) ++ replicate (4 * (width - until)) 0 ≡ old ++ row_read frame x row width
    row_read-added old width first until divided =
        let left : List ℕ = replicate (4 * first) 0 in
        let inside = columns_read frame x row first (until - first) in
        let right : List ℕ = replicate (4 * (width - until)) 0 in
        ap (λ (part : List ℕ). part ++ right) (append_assoc old left inside)
        ∙ append_assoc old (left ++ inside) right
        ∙ ap (λ (part : List ℕ). old ++ part) (sym (row_read-parts width first until divided))

  -- no row, and one more row
  pub bytes_read-none : (x y : ℤ) (width : ℕ) → bytes_read frame x y width 0 ≡ []
  unfolding bytes_read
  bytes_read-none x y width = refl

  pub bytes_read-more : (x y : ℤ) (width n : ℕ) → bytes_read frame x y width (n + 1) ≡ bytes_read frame x y width n ++ row_read frame x (y +ℤ pos n) width
  unfolding bytes_read
  bytes_read-more x y width n = pieces-more (λ row. row_read frame x (y +ℤ pos row) width) 0 n n (omega arith)
