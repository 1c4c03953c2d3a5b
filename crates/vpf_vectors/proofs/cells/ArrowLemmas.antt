-- The next dart of a grid permutes its darts.
use Rattle.std.proofs.Common.{◌≡◌, ℕ, ◌≤◌, true, false, refl, ap, ◌∙◌, arith}
use Rattle.std.proofs.lemmas.Bool.Decides.{nat_tests}
use Rattle.vpf_vectors.specs.Cells.Corners.{Way, East, North, West, South, Arrow, back_of, leads, has_arrow, head_x, head_y, step_x, step_y, flip_arrow, next_arrow}
use Rattle.vpf_vectors.proofs.cells.WayLemmas.{turn_way, back_back, right_back, left_back}

abbrev pub arrow : ℕ → ℕ → Way → Arrow
arrow x y w = record { x = x; y = y; way = w }

pub same_arrow : (a b : Arrow) → a.x ≡ b.x → a.y ≡ b.y → a.way ≡ b.way → a ≡ b
same_arrow a b ex ey ew = ap (λ x. arrow x a.y a.way) ex ∙ ap (λ y. arrow b.x y a.way) ey ∙ ap (λ w. arrow b.x b.y w) ew

pub has_parts : (n x y : ℕ) (w : Way) → has_arrow n (arrow x y w) ≡ true → (x ≤ n) × (y ≤ n) × (leads n x y w ≡ true)
has_parts n x y w h = grind (arith, nat_tests)

pub has_from : (n x y : ℕ) (w : Way) → x ≤ n → y ≤ n → leads n x y w ≡ true → has_arrow n (arrow x y w) ≡ true
has_from n x y w hx hy l = grind (arith, nat_tests)

-- the other dart of the edge is there, and its other dart is the first
pub flip_has : (n x y : ℕ) (w : Way) → has_arrow n (arrow x y w) ≡ true → has_arrow n (flip_arrow (arrow x y w)) ≡ true
flip_has n x y East h = grind (arith, nat_tests)
flip_has n x y North h = grind (arith, nat_tests)
flip_has n x y West h = grind (arith, nat_tests)
flip_has n x y South h = grind (arith, nat_tests)

pub back_x : (n x y : ℕ) (w : Way) → has_arrow n (arrow x y w) ≡ true → step_x (back_of w) (step_x w x) ≡ x
back_x n x y East h = grind (arith, nat_tests)
back_x n x y North h = refl
back_x n x y West h = grind (arith, nat_tests)
back_x n x y South h = refl

pub back_y : (n x y : ℕ) (w : Way) → has_arrow n (arrow x y w) ≡ true → step_y (back_of w) (step_y w y) ≡ y
back_y n x y East h = refl
back_y n x y North h = grind (arith, nat_tests)
back_y n x y West h = refl
back_y n x y South h = grind (arith, nat_tests)

pub flip_flip : (n : ℕ) (a : Arrow) → has_arrow n a ≡ true → flip_arrow (flip_arrow a) ≡ a
flip_flip n a h = same_arrow (flip_arrow (flip_arrow a)) a (back_x n a.x a.y a.way h) (back_y n a.x a.y a.way h) (back_back a.way)

-- next turns at the head
pub next_turns : (n : ℕ) (a : Arrow) → (next_arrow n a).way ≡ turn_way (leads n (head_x a) (head_y a)) (back_of a.way)
next_turns n a = rw (left_back, back_back, right_back) refl

-- two darts don't have one next: a clause for each pair of directions
apart : (n x y : ℕ) (w : Way) (u v : ℕ) (z : Way) → 1 ≤ n → has_arrow n (arrow x y w) ≡ true → has_arrow n (arrow u v z) ≡ true
    → next_arrow n (arrow x y w) ≡ next_arrow n (arrow u v z) → arrow x y w ≡ arrow u v z
apart n x y East u v East le h k same = grind (arith, nat_tests)
apart n x y East u v North le h k same = grind (arith, nat_tests)
apart n x y East u v West le h k same = grind (arith, nat_tests)
apart n x y East u v South le h k same = grind (arith, nat_tests)
apart n x y North u v East le h k same = grind (arith, nat_tests)
apart n x y North u v North le h k same = grind (arith, nat_tests)
apart n x y North u v West le h k same = grind (arith, nat_tests)
apart n x y North u v South le h k same = grind (arith, nat_tests)
apart n x y West u v East le h k same = grind (arith, nat_tests)
apart n x y West u v North le h k same = grind (arith, nat_tests)
apart n x y West u v West le h k same = grind (arith, nat_tests)
apart n x y West u v South le h k same = grind (arith, nat_tests)
apart n x y South u v East le h k same = grind (arith, nat_tests)
apart n x y South u v North le h k same = grind (arith, nat_tests)
apart n x y South u v West le h k same = grind (arith, nat_tests)
apart n x y South u v South le h k same = grind (arith, nat_tests)

pub next_apart : (n : ℕ) (a b : Arrow) → 1 ≤ n → has_arrow n a ≡ true → has_arrow n b ≡ true → next_arrow n a ≡ next_arrow n b → a ≡ b
next_apart n a b le ha hb same = apart n a.x a.y a.way b.x b.y b.way le ha hb same

pub next_has-from : (n x y : ℕ) (w : Way) → 1 ≤ n → has_arrow n (arrow x y w) ≡ true → has_arrow n (next_arrow n (arrow x y w)) ≡ true
next_has-from n x y East le h = grind (arith, nat_tests)
next_has-from n x y North le h = grind (arith, nat_tests)
next_has-from n x y West le h = grind (arith, nat_tests)
next_has-from n x y South le h = grind (arith, nat_tests)

pub next_has : (n : ℕ) (a : Arrow) → 1 ≤ n → has_arrow n a ≡ true → has_arrow n (next_arrow n a) ≡ true
next_has n a le h = next_has-from n a.x a.y a.way le h

-- one of two opposite directions is there at each corner
pub one_is_there : (n x y : ℕ) (w : Way) → 1 ≤ n → leads n x y w ≡ false → leads n x y (back_of w) ≡ true
one_is_there n x y East le h = grind (arith, nat_tests)
one_is_there n x y North le h = grind (arith, nat_tests)
one_is_there n x y West le h = grind (arith, nat_tests)
one_is_there n x y South le h = grind (arith, nat_tests)
