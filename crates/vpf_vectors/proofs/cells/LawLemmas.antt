-- The laws, as they are stated.
use Rattle.std.proofs.Common.{◌≡◌, ℕ, ◌≤◌, true, ◌*◌, subst}
use Rattle.std.proofs.lemmas.List.FromFn.{length-map-range_with_len}
use Rattle.vpf_darts.specs.Darts.{flip}
use Rattle.vpf_vectors.specs.Cells.Corners.{beside_x, beside_y}
use Rattle.vpf_vectors.specs.Cells.Numbers.{nodes, arrow_in}
use Rattle.vpf_vectors.specs.Cells.Maps.{has_dart, next_in_grid, tail_in, IsOneCycle, border_dart}
use Rattle.vpf_vectors.specs.Inner.Cells.Laws.{NumbersNameArrows, ArrowsHaveNumbers, FlipIsBack, DartsAreInRange, NextsFit}
use Rattle.vpf_vectors.specs.Inner.Cells.Laws.{FaceIsOneCycle, BorderIsOneCycle, RingsStartLeast, FirstEdgesAreLeast, IsLeastDart}
use Rattle.vpf_vectors.proofs.cells.NumberLemmas.{number_has, arrow_of_number, arrow_has, number_of_arrow, flip_number}
use Rattle.vpf_vectors.proofs.cells.FaceLemmas.{next-face, next-tail, head-flip, no_loop}
use Rattle.vpf_vectors.proofs.cells.ArrowLemmas.{has_parts}
use Rattle.vpf_vectors.proofs.cells.MapLemmas.{flip_has}
use Rattle.vpf_vectors.proofs.cells.CellLemmas.{bounds}
use Rattle.vpf_vectors.proofs.cells.SideLemmas.{sides_apart}
use Rattle.vpf_vectors.proofs.cells.BorderLemmas.{border_is_one_cycle}
use Rattle.vpf_vectors.proofs.cells.PlaceLemmas.{corner_of, node_in_range, face_in_range}
use Rattle.vpf_vectors.proofs.cells.RingLemmas.{face_has_cycle, node_has_first}

pub arrows : NumbersNameArrows
arrows n a h = (number_has n a h, arrow_of_number n a h)

pub darts : ArrowsHaveNumbers
darts n d le h = (arrow_has n d le h, number_of_arrow n d le h)

pub back : FlipIsBack
back n a h = flip_number n a.x a.y a.way h

tail_in_range : (n d : ℕ) → 1 ≤ n → has_dart n d ≡ true → (1 ≤ tail_in n d) × (tail_in n d ≤ nodes n)
tail_in_range n d le h =
    let p = has_parts n (arrow_in n d).x (arrow_in n d).y (arrow_in n d).way (arrow_has n d le h) in
    node_in_range n (arrow_in n d).x (arrow_in n d).y p.0 p.1

pub in_range : DartsAreInRange
in_range n d le h = record {
  tail = tail_in_range n d le h;
  head = subst (λ k. (1 ≤ k) × (k ≤ nodes n)) (head-flip n d le h) (tail_in_range n (flip d) le (flip_has n d h));
  face = face_in_range n (beside_x (arrow_in n d).way (arrow_in n d).x) (beside_y (arrow_in n d).way (arrow_in n d).y);
}

pub fit : NextsFit
fit n d le h = record {
  tail = next-tail n d le h;
  face = next-face n d le h;
  back = head-flip n d le h;
  no_loop = no_loop n d le h;
  sides = sides_apart n d le h;
}

pub face : FaceIsOneCycle
face n f le low high = let h = face_has_cycle n f le low high in subst (IsOneCycle (next_in_grid n) (bounds n f)) h.along h.one

pub border : BorderIsOneCycle
border n le = (border_is_one_cycle n le, length-map-range_with_len (border_dart n) 0 (4 * n))

pub rings : RingsStartLeast
rings n f le low high =
    let h = face_has_cycle n f le low high in
    subst (IsLeastDart n f) h.number (record { there = h.there; of_face = h.of_face; of_edge = h.of_edge; least = h.least })

pub firsts : FirstEdgesAreLeast
firsts n k le low high =
    let c = corner_of n k low high in
    let h = node_has_first n k le c.0 c.1 c.2 in
    record { dart = h.dart; there = h.there; leaves = h.leaves; of_edge = h.of_edge; least = h.least }
