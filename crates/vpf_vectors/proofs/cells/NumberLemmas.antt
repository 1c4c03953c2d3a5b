-- The numbers of darts, nodes and faces, and back.
use Rattle.std.proofs.Common.{◌≡◌, ℕ, ◌+◌, ◌-◌, ◌*◌, ◌/◌, ◌%◌, ◌<◌, ◌≤◌, true, nat_le, ◌==◌, ap, ◌∙◌, inl, inr, arith}
use Rattle.std.proofs.lemmas.Bool.{cases_Bool}
use Rattle.std.proofs.lemmas.Bool.Decides.{nat_tests}
use Rattle.std.proofs.lemmas.Nat.{div-mul-add, mod-mul-add, div_below, mod_below, div-add-mod', mul-add-lt}
use Rattle.vpf_darts.specs.Darts.{code, flip}
use Rattle.vpf_vectors.specs.Cells.Corners.{Way, East, North, West, South, Arrow, has_arrow, flip_arrow}
use Rattle.vpf_vectors.specs.Cells.Numbers.{edges, east_edge, north_edge, number_from, arrow_number, line_in, line_place, arrow_at, arrow_in}
use Rattle.vpf_vectors.specs.Cells.Maps.{has_dart}
use Rattle.vpf_vectors.proofs.cells.ArrowLemmas.{arrow}

-- the number of a sign at a place of a line
abbrev pub number_at : ℕ → ℕ → ℕ → ℕ → ℕ
number_at n line place sign = 2 * (line * n + place + 1) + sign

-- the parts of such a number, the one place where lines are divided
pub parts_at : (n line place sign : ℕ) → place < n → sign < 2
    → (line_in n (number_at n line place sign) ≡ line) × (line_place n (number_at n line place sign) ≡ place) × (number_at n line place sign % 2 ≡ sign)
unfolding line_in line_place
parts_at n line place sign low bit =
    let q : (2 * (line * n + place + 1) + sign) / 2 - 1 ≡ line * n + place = omega arith in
    (ap (λ k. k / n) q ∙ div-mul-add line n place low, ap (λ k. k % n) q ∙ mod-mul-add line n place low, omega arith)

pub number_from_parts : (n dart : ℕ) → 2 ≤ dart → number_at n (line_in n dart) (line_place n dart) (dart % 2) ≡ dart
unfolding line_in line_place
number_from_parts n dart low = let q : (dart / 2 - 1) / n * n + (dart / 2 - 1) % n ≡ dart / 2 - 1 = div-add-mod' (dart / 2 - 1) n in omega arith

-- a line is one of 2 n + 2, and a place one of n
pub line_below : (n dart : ℕ) → 1 ≤ n → has_dart n dart ≡ true → (2 ≤ dart) × (line_in n dart < 2 * n + 2) × (line_place n dart < n)
unfolding line_in line_place edges
line_below n dart le h =
    let b : (2 ≤ dart) × (dart < 2 * (2 * (n * (n + 1))) + 2) = grind (arith, nat_tests) in
    let b0 : 2 ≤ dart = b.0 in
    let b1 : dart < 2 * (2 * (n * (n + 1))) + 2 = b.1 in
    let q : dart / 2 - 1 < (2 * n + 2) * n = omega arith in
    (b.0, div_below (dart / 2 - 1) n (2 * n + 2) le q, mod_below (dart / 2 - 1) n le)

pub has_number : (n line place sign : ℕ) → line < 2 * n + 2 → place < n → sign < 2 → has_dart n (number_at n line place sign) ≡ true
unfolding edges
has_number n line place sign hl hp bit =
    let m : line * n + place < n * (2 * n + 2) = mul-add-lt line n place (2 * n + 2) hl hp in
    let low : 2 ≤ 2 * (line * n + place + 1) + sign = omega arith in
    let high : 2 * (line * n + place + 1) + sign < 2 * (2 * (n * (n + 1))) + 2 = omega arith in
    grind (arith, nat_tests)

-- a dart's line, place and sign
abbrev pub line_from : ℕ → ℕ → ℕ → Way → ℕ
line_from n x y East = y
line_from n x y North = n + 1 + x
line_from n x y West = y
line_from n x y South = n + 1 + x

abbrev pub place_from : ℕ → ℕ → Way → ℕ
place_from x y East = x
place_from x y North = y
place_from x y West = x - 1
place_from x y South = y - 1

abbrev pub sign_from : Way → ℕ
sign_from East = 0
sign_from North = 0
sign_from West = 1
sign_from South = 1

pub number_from_line : (n x y : ℕ) (w : Way) → number_from n x y w ≡ number_at n (line_from n x y w) (place_from x y w) (sign_from w)
unfolding code east_edge north_edge
number_from_line n x y East = omega arith
number_from_line n x y North = omega arith
number_from_line n x y West = omega arith
number_from_line n x y South = omega arith

pub line_bounds : (n x y : ℕ) (w : Way) → has_arrow n (arrow x y w) ≡ true → (line_from n x y w < 2 * n + 2) × (place_from x y w < n) × (sign_from w < 2)
line_bounds n x y East h = grind (arith, nat_tests)
line_bounds n x y North h = grind (arith, nat_tests)
line_bounds n x y West h = grind (arith, nat_tests)
line_bounds n x y South h = grind (arith, nat_tests)

pub at_line : (n x y : ℕ) (w : Way) → has_arrow n (arrow x y w) ≡ true → arrow_at n (line_from n x y w) (place_from x y w) (sign_from w) ≡ arrow x y w
at_line n x y East h = grind (arith, nat_tests)
at_line n x y North h = grind (arith, nat_tests)
at_line n x y West h = grind (arith, nat_tests)
at_line n x y South h = grind (arith, nat_tests)

pub number_has : (n : ℕ) (a : Arrow) → has_arrow n a ≡ true → has_dart n (arrow_number n a) ≡ true
number_has n a h =
    let b = line_bounds n a.x a.y a.way h in
    ap (has_dart n) (number_from_line n a.x a.y a.way) ∙ has_number n (line_from n a.x a.y a.way) (place_from a.x a.y a.way) (sign_from a.way) b.0 b.1 b.2

pub arrow_of_number : (n : ℕ) (a : Arrow) → has_arrow n a ≡ true → arrow_in n (arrow_number n a) ≡ a
arrow_of_number n a h =
    let b = line_bounds n a.x a.y a.way h in
    let p = parts_at n (line_from n a.x a.y a.way) (place_from a.x a.y a.way) (sign_from a.way) b.1 b.2 in
    ap (arrow_in n) (number_from_line n a.x a.y a.way)
    ∙ ap (λ k. arrow_at n k (line_place n (number_at n (line_from n a.x a.y a.way) (place_from a.x a.y a.way) (sign_from a.way)))
    (number_at n (line_from n a.x a.y a.way) (place_from a.x a.y a.way) (sign_from a.way) % 2)) p.0
    ∙ ap (λ k. arrow_at n (line_from n a.x a.y a.way) k (number_at n (line_from n a.x a.y a.way) (place_from a.x a.y a.way) (sign_from a.way) % 2)) p.1
    ∙ ap (arrow_at n (line_from n a.x a.y a.way) (place_from a.x a.y a.way)) p.2
    ∙ at_line n a.x a.y a.way h

-- the arrow at a place of a line is there and has its number
pub arrow_at-has : (n line place sign : ℕ) → line < 2 * n + 2 → place < n → has_arrow n (arrow_at n line place sign) ≡ true
arrow_at-has n line place sign hl hp = elim (cases_Bool (nat_le line n)) [
  | inl t ↦ elim (cases_Bool (sign == 0)) [ inl z ↦ rw (t, z) (grind (arith, nat_tests)) | inr z ↦ rw (t, z) (grind (arith, nat_tests)) ]
  | inr f ↦ elim (cases_Bool (sign == 0)) [ inl z ↦ rw (f, z) (grind (arith, nat_tests)) | inr z ↦ rw (f, z) (grind (arith, nat_tests)) ]
]

pub arrow_at-number : (n line place sign : ℕ) → line < 2 * n + 2 → place < n → sign < 2
    → arrow_number n (arrow_at n line place sign) ≡ number_at n line place sign
unfolding code east_edge north_edge
arrow_at-number n line place sign hl hp bit = elim (cases_Bool (nat_le line n)) [
  | inl t ↦ elim (cases_Bool (sign == 0)) [
    | inl z ↦ rw (t, z) (let s : sign ≡ 0 = grind (arith, nat_tests) in omega arith)
    | inr z ↦ rw (t, z) (let s : sign ≡ 1 = grind (arith, nat_tests) in omega arith)
  ]
  | inr f ↦ (
      let far : n < line = grind (arith, nat_tests) in
      let e : line ≡ n + 1 + (line - (n + 1)) = omega arith in
      let m : line * n ≡ (n + 1 + (line - (n + 1))) * n = ap (λ k. k * n) e in
      elim (cases_Bool (sign == 0)) [
        | inl z ↦ rw (f, z) (let s : sign ≡ 0 = grind (arith, nat_tests) in omega arith)
        | inr z ↦ rw (f, z) (let s : sign ≡ 1 = grind (arith, nat_tests) in omega arith)
      ])
]

pub arrow_has : (n dart : ℕ) → 1 ≤ n → has_dart n dart ≡ true → has_arrow n (arrow_in n dart) ≡ true
arrow_has n dart le h = let b = line_below n dart le h in arrow_at-has n (line_in n dart) (line_place n dart) (dart % 2) b.1 b.2

pub number_of_arrow : (n dart : ℕ) → 1 ≤ n → has_dart n dart ≡ true → arrow_number n (arrow_in n dart) ≡ dart
number_of_arrow n dart le h =
    let b = line_below n dart le h in
    arrow_at-number n (line_in n dart) (line_place n dart) (dart % 2) b.1 b.2 (omega arith) ∙ number_from_parts n dart b.0

pub flip_number : (n x y : ℕ) (w : Way) → has_arrow n (arrow x y w) ≡ true → flip (number_from n x y w) ≡ arrow_number n (flip_arrow (arrow x y w))
unfolding code flip east_edge north_edge
flip_number n x y East h = omega arith
flip_number n x y North h = omega arith
flip_number n x y West h = let low : 1 ≤ x = grind (arith, nat_tests) in omega arith
flip_number n x y South h = let low : 1 ≤ y = grind (arith, nat_tests) in omega arith

pub flip_of_number : (n : ℕ) (a : Arrow) → has_arrow n a ≡ true → flip (arrow_number n a) ≡ arrow_number n (flip_arrow a)
flip_of_number n a h = flip_number n a.x a.y a.way h
