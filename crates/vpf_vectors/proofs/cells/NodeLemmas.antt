-- The darts of a node are one cycle of turn.
use Rattle.std.proofs.Common.{◌≡◌, ℕ, ◌≤◌, Bool, true, ◌&&◌, ◌==◌, if◌then◌else◌, [], ◌∷◌, sym, ap, ◌∙◌, arith}
use Rattle.std.proofs.lemmas.Bool.Decides.{nat_tests}
use Rattle.vpf_darts.specs.Maps.{turn}
use Rattle.vpf_vectors.specs.Cells.Corners.{Way, East, North, West, South, Arrow, leads, has_arrow, flip_arrow, next_arrow}
use Rattle.vpf_vectors.specs.Cells.Numbers.{node_of, number_from, arrow_number, arrow_in}
use Rattle.vpf_vectors.specs.Cells.Maps.{has_dart, next_in_grid, grid_map, tail_in, IsOneCycle, node_darts}
use Rattle.vpf_vectors.proofs.cells.WayLemmas.{turn_way}
use Rattle.vpf_vectors.proofs.cells.ArrowLemmas.{arrow, has_parts, has_from, flip_has, flip_flip, same_arrow, next_turns, one_is_there}
use Rattle.vpf_vectors.proofs.cells.NumberLemmas.{number_has, arrow_has, arrow_of_number, number_of_arrow, flip_number}
use Rattle.vpf_vectors.proofs.cells.MapLemmas.{next_inside}
use Rattle.vpf_vectors.proofs.cells.FaceLemmas.{same_corner}
use Rattle.vpf_vectors.proofs.cells.CycleLemmas.{turn_cycle, count_picked, picked_by, all_ways}

-- the next of the other dart is the one round the tail
pub next_flip : (n : ℕ) (a : Arrow) → has_arrow n a ≡ true → next_arrow n (flip_arrow a) ≡ arrow a.x a.y (turn_way (leads n a.x a.y) a.way)
next_flip n a h =
    let e = flip_flip n a h in
    same_arrow (next_arrow n (flip_arrow a)) (arrow a.x a.y (turn_way (leads n a.x a.y) a.way)) (ap (λ (b : Arrow). b.x) e) (ap (λ (b : Arrow). b.y) e)
    (next_turns n (flip_arrow a) ∙ ap (λ (b : Arrow). turn_way (leads n b.x b.y) b.way) e)

-- the next of the dart of an arrow
pub next_of_number : (n : ℕ) (a : Arrow) → has_arrow n a ≡ true → next_in_grid n (arrow_number n a) ≡ arrow_number n (next_arrow n a)
next_of_number n a h = next_inside n (arrow_number n a) (number_has n a h) ∙ ap (λ b. arrow_number n (next_arrow n b)) (arrow_of_number n a h)

pub turn_of_number : (n : ℕ) (a : Arrow) → has_arrow n a ≡ true
    → turn (grid_map n) (arrow_number n a) ≡ arrow_number n (arrow a.x a.y (turn_way (leads n a.x a.y) a.way))
turn_of_number n a h =
    ap (next_in_grid n) (flip_number n a.x a.y a.way h) ∙ next_of_number n (flip_arrow a) (flip_has n a.x a.y a.way h) ∙ ap (arrow_number n) (next_flip n a h)

abbrev pub leaves : ℕ → ℕ → ℕ → Bool
leaves n node d = has_dart n d && (tail_in n d == node)

leaves_parts : (n node d : ℕ) → leaves n node d ≡ true → (has_dart n d ≡ true) × (tail_in n d ≡ node)
leaves_parts n node d h = grind (arith, nat_tests)

leaves_from : (n node d : ℕ) → has_dart n d ≡ true → tail_in n d ≡ node → leaves n node d ≡ true
leaves_from n node d h e = grind (arith, nat_tests)

pub node_is_one_cycle : (n x y : ℕ) → 1 ≤ n → x ≤ n → y ≤ n → IsOneCycle (turn (grid_map n)) (leaves n (node_of n x y)) (node_darts n x y)
node_is_one_cycle n x y le hx hy = record {
  cycle = turn_cycle (leads n x y) (number_from n x y) (turn (grid_map n)) (λ w t. turn_of_number n (arrow x y w) (has_from n x y w hx hy t))
      (one_is_there n x y East le) (one_is_there n x y North le);
  once = λ d. (
      let v : Way = (arrow_in n d).way in
      let here : leaves n (node_of n x y) d ≡ true → (leads n x y (arrow_in n d).way ≡ true) × (number_from n x y (arrow_in n d).way ≡ d) = λ l. (
      let q = leaves_parts n (node_of n x y) d l in
      let a = arrow_has n d le q.0 in
      let parts = has_parts n (arrow_in n d).x (arrow_in n d).y (arrow_in n d).way a in
      let c = same_corner n (arrow_in n d).x (arrow_in n d).y x y parts.0 hx q.1 in
      let one : leads n (arrow_in n d).x (arrow_in n d).y (arrow_in n d).way ≡ leads n x y (arrow_in n d).way =
      ap (λ k. leads n k (arrow_in n d).y (arrow_in n d).way) c.0 ∙ ap (λ k. leads n x k (arrow_in n d).way) c.1 in
      let two : number_from n (arrow_in n d).x (arrow_in n d).y (arrow_in n d).way ≡ number_from n x y (arrow_in n d).way =
      ap (λ k. number_from n k (arrow_in n d).y (arrow_in n d).way) c.0 ∙ ap (λ k. number_from n x k (arrow_in n d).way) c.1 in
      (sym one ∙ parts.2, sym two ∙ number_of_arrow n d le q.0)) in
      let only : (w : Way) → leads n x y w ≡ true → number_from n x y w ≡ d → (leaves n (node_of n x y) d ≡ true) × (w ≡ (arrow_in n d).way) = λ w t e. (
      let h = has_from n x y w hx hy t in
      let a : arrow_in n d ≡ arrow x y w = ap (arrow_in n) (sym e) ∙ arrow_of_number n (arrow x y w) h in (
        leaves_from n (node_of n x y) d (ap (has_dart n) (sym e) ∙ number_has n (arrow x y w) h) (ap (λ (b : Arrow). node_of n b.x b.y) a),
        sym (ap (λ (b : Arrow). b.way) a),
      )) in
      count_picked (leads n x y) (number_from n x y) d (leaves n (node_of n x y) d) (arrow_in n d).way
      (picked_by (leads n x y) (number_from n x y) d (leaves n (node_of n x y) d) (arrow_in n d).way here only) (East ∷ North ∷ West ∷ South ∷ [])
      ∙ ap (λ k. if leaves n (node_of n x y) d then k else 0) (all_ways (arrow_in n d).way));
}
