-- What is so of the lists of what is in a tile, and of the numbers there.
use Rattle.std.proofs.Common.{◌≡◌, ℕ, ◌+◌, ◌^◌, ◌<◌, ◌≤◌, Bool, true, cond, leb, eqb, ◌&&◌, sym, ap, ◌∙◌, subst, arith, None, Some, List, length, get_or}
use Rattle.std.specs.Prelude.{All, count_by, filter}
use Rattle.std.specs.List.{range_with_len}
use Rattle.std.proofs.lemmas.Bool.{and_parts, leb-true}
use Rattle.std.proofs.lemmas.List.Elements.{All-filter, All-from_get_or, filter_passes}
use Rattle.std.proofs.lemmas.List.FromFn.{get_or-range_with_len, length-range_with_len}
use Rattle.std.proofs.lemmas.List.Sums.{count_by-le-length, length-filter}
use Rattle.vpf_cutting.specs.Inner.Copies.Presence.{Presence, items_in, local_number, rank_up_to}
use Rattle.vpf_prims.specs.Numbering.{IsRowOf}
use Rattle.vpf_prims.specs.Primitives.{Primitives}
use Rattle.vpf_tiling.specs.Inner.Laws.{EdgesAreCounted, FacesAreCounted, NodesAreCounted}
use Rattle.vpf_tiling.specs.Presence.{has_edge, has_node, holds_face, local_edge, local_face, local_node}
use Rattle.vpf_tiling.specs.Inner.PresenceLaws.{AtNode, at_node, present_has, tail_in_nodes}
use Rattle.vpf_tiling.specs.Ranks.{up_to}
use Rattle.vpf_wing.specs.WellFormed.{IsWellFormed}
use Rattle.vpf_cutting.specs.Inner.Cuts.{ArePresent}
use Rattle.vpf_cutting.specs.Inner.WalkLaws.{has_edge_row}

-- the items of a tile
pub items_are : (n tiles : ℕ) (test : ℕ → ℕ → Bool) (p : Presence) → ArePresent n tiles test p → (t : ℕ) → items_in p t ≡ filter (test t) (up_to n)
items_are n tiles test p is t =
    ap (λ (h : ℕ → ℕ → Bool). filter (h t) (range_with_len 1 p.items)) is.tests ∙ ap (λ k. filter (test t) (range_with_len 1 k)) is.items

pub each_passes : (test : ℕ → Bool) (n : ℕ) (xs : List ℕ) → xs ≡ filter test (up_to n) → All (λ x. test x ≡ true) xs
each_passes test n xs is = subst (All (λ x. test x ≡ true)) (sym is) (filter_passes test (up_to n))

pub rows_pass : (test : ℕ → Bool) (n : ℕ) (xs : List ℕ) → xs ≡ filter test (up_to n) → All (IsRowOf n) xs
rows_pass test n xs is =
    subst (All (IsRowOf n)) (sym is)
    (All-filter test (IsRowOf n) (up_to n) (All-from_get_or (IsRowOf n) (up_to n) 0 (λ i h. (
    let many : length (up_to n) ≡ n = length-range_with_len 1 n in
    let below : i < n = subst (λ m. i < m) many h in
    let at : get_or (up_to n) i 0 ≡ 1 + i = get_or-range_with_len 1 n i 0 below in
    (omega arith, omega arith)))))

pub few_pass : (test : ℕ → Bool) (n : ℕ) (xs : List ℕ) → xs ≡ filter test (up_to n) → n < 2 ^ 24 → length xs < 2 ^ 24
few_pass test n xs is few =
    let a : length xs ≡ count_by test (up_to n) = ap length is ∙ length-filter test (up_to n) in
    let b : count_by test (up_to n) ≤ length (up_to n) = count_by-le-length test (up_to n) in
    let d : length (up_to n) ≡ n = length-range_with_len 1 n in
    omega arith

-- the number of an item in a tile where it is
pub number_is : (n tiles : ℕ) (test : ℕ → ℕ → Bool) (p : Presence) → ArePresent n tiles test p → (t i : ℕ) → test t i ≡ true
    → local_number p t i ≡ Some (count_by (test t) (range_with_len 1 i))
number_is n tiles test p is t i h =
    ap (λ (q : ℕ → ℕ → Bool). cond (q t i) (Some (rank_up_to (q t) i)) None) is.tests
    ∙ ap (λ b. cond b (Some (rank_up_to (test t) i)) None) h

counted_to : (test : ℕ → Bool) (i : ℕ) → count_by test (range_with_len 1 i) ≤ i
counted_to test i =
    let b : count_by test (range_with_len 1 i) ≤ length (range_with_len 1 i) = count_by-le-length test (range_with_len 1 i) in
    let d : length (range_with_len 1 i) ≡ i = length-range_with_len 1 i in
    omega arith

pub edge_few : EdgesAreCounted → (c : Primitives) (plan : ℕ → ℕ) (t e : ℕ) → length c.edges < 2 ^ 24 → has_edge c plan t e ≡ true → local_edge c plan t e < 2 ^ 24
edge_few law c plan t e few h =
    let top : e ≤ length c.edges = (has_edge_row c plan t e h).1 in
    let is : local_edge c plan t e ≡ count_by (has_edge c plan t) (range_with_len 1 e) = law c plan t e h in
    let to : count_by (has_edge c plan t) (range_with_len 1 e) ≤ e = counted_to (has_edge c plan t) e in
    omega arith

pub node_few : NodesAreCounted → (c : Primitives) (plan : ℕ → ℕ) (t n : ℕ) → IsWellFormed c → length c.nodes < 2 ^ 24 → has_node c plan t n ≡ true
    → local_node c plan t n < 2 ^ 24
node_few law c plan t n w few h =
    let a : AtNode c plan t n = at_node c plan t n h in
    let top : n ≤ length c.nodes = subst (λ k. k ≤ length c.nodes) a.tail (tail_in_nodes c w a.dart (present_has c plan t a.dart a.present)).to_last in
    let is : local_node c plan t n ≡ count_by (has_node c plan t) (range_with_len 1 n) = law c plan w t n h in
    let to : count_by (has_node c plan t) (range_with_len 1 n) ≤ n = counted_to (has_node c plan t) n in
    omega arith

pub face_few : FacesAreCounted → (c : Primitives) (plan : ℕ → ℕ) (t f : ℕ) → length c.faces < 2 ^ 24 → holds_face c plan t f ≡ true
    → local_face c plan t f < 2 ^ 24 + 1
face_few law c plan t f few h =
    let q = and_parts (leb 2 f && leb f (length c.faces)) (eqb (plan f) t) h in
    let top : f ≤ length c.faces = leb-true f (length c.faces) (and_parts (leb 2 f) (leb f (length c.faces)) q.0).1 in
    let is : local_face c plan t f ≡ count_by (holds_face c plan t) (range_with_len 1 f) + 1 = law c plan t f h in
    let to : count_by (holds_face c plan t) (range_with_len 1 f) ≤ f = counted_to (holds_face c plan t) f in
    omega arith
