-- Numbers of things in tiles are few, since each counts some of the things of the coverage.
use Rattle.std.proofs.Common.{◌≡◌, ℕ, zero, suc, ◌+◌, ◌≤◌, Bool, true, leb, eqb, ◌&&◌, List, [], ◌∷◌, length, ap, subst, inl, inr, arith}
use Rattle.std.specs.Prelude.{filter}
use Rattle.std.specs.List.{AllByRecursion, range_with_len}
use Rattle.std.proofs.lemmas.Bool.{and_parts, cases_Bool, leb-true}
use Rattle.vpf_darts.specs.Darts.{code, edge_in, tile_in}
use Rattle.vpf_prims.specs.Lists.{first_from, first_item}
use Rattle.vpf_prims.specs.Numbering.{IsRowOf}
use Rattle.vpf_prims.specs.Primitives.{Primitives, edge_count, untiled}
use Rattle.vpf_wing.specs.Inner.DartLaws.{IsThere, has-there}
use Rattle.vpf_wing.specs.WellFormed.{IsWellFormed}
use Rattle.vpf_tiling.specs.Presence.{has_edge, has_node, holds_face, local_edge, local_face, local_node}
use Rattle.vpf_tiling.specs.Inner.PresenceLaws.{AtNode, at_node, present_has, tail_in_nodes}
use Rattle.vpf_tiling.specs.Inner.RankLaws.{rank-step, weight}
use Rattle.vpf_tiling.specs.Ranks.{rank, up_to}

-- ---- ranks

rank_up_to : (p : ℕ → Bool) (k : ℕ) → rank p k ≤ k
rank_up_to p zero = omega arith
rank_up_to p (suc k) =
    let before : rank p k ≤ k = rank_up_to p k in
    elim (cases_Bool (p k)) [
      | inl t ↦ (let step : rank p (suc k) ≡ 1 + rank p k = rank-step p k 1 (ap weight t) in omega arith)
      | inr f ↦ (let step : rank p (suc k) ≡ 0 + rank p k = rank-step p k 0 (ap weight f) in omega arith)
    ]

-- where none passes behind the last, ranks are no more than one behind it
rank_last : (p : ℕ → Bool) (last : ℕ) → ((x : ℕ) → p x ≡ true → x ≤ last) → (k : ℕ) → rank p k ≤ last + 1
rank_last p last within zero = omega arith
rank_last p last within (suc k) = elim (cases_Bool (p k)) [
  | inl t ↦ (
      let here : k ≤ last = within k t in
      let before : rank p k ≤ k = rank_up_to p k in
      let step : rank p (suc k) ≡ 1 + rank p k = rank-step p k 1 (ap weight t) in
      omega arith)
  | inr f ↦ (
      let before : rank p k ≤ last + 1 = rank_last p last within k in
      let step : rank p (suc k) ≡ 0 + rank p k = rank-step p k 0 (ap weight f) in
      omega arith)
]

-- ---- what passes

-- the edge of a dart of an untiled coverage
edge_of_code : (e : ℕ) → tile_in (code 0 e 0) ≡ 0 → edge_in (code 0 e 0) ≡ e
unfolding code edge_in tile_in
edge_of_code e h = omega arith

edges_within : (c : Primitives) (plan : ℕ → ℕ) (t e : ℕ) → has_edge c plan t e ≡ true → e ≤ length c.edges
edges_within c plan t e h =
    let there : IsThere (untiled c) (code 0 e 0) = has-there (untiled c) (code 0 e 0) (present_has c plan t (code 0 e 0) h) in
    let last = there.to_last in
    let tile : tile_in (code 0 e 0) ≡ 0 = omega arith in
    let count : edge_in (code 0 e 0) ≤ length c.edges = subst (λ (t : ℕ). edge_in (code 0 e 0) ≤ edge_count (untiled c) t) tile there.to_count in
    let same : edge_in (code 0 e 0) ≡ e = edge_of_code e tile in
    omega arith

nodes_within : (c : Primitives) (plan : ℕ → ℕ) → IsWellFormed c → (t n : ℕ) → has_node c plan t n ≡ true → n ≤ length c.nodes
nodes_within c plan w t n h =
    let at : AtNode c plan t n = at_node c plan t n h in
    subst (λ (n : ℕ). n ≤ length c.nodes) at.tail (tail_in_nodes c w at.dart (present_has c plan t at.dart at.present)).to_last

faces_within : (c : Primitives) (plan : ℕ → ℕ) (t f : ℕ) → holds_face c plan t f ≡ true → f ≤ length c.faces
faces_within c plan t f h =
    let both = and_parts (leb 2 f && leb f (length c.faces)) (eqb (plan f) t) h in
    leb-true f (length c.faces) (and_parts (leb 2 f) (leb f (length c.faces)) both.0).1

-- ---- numbers in tiles

pub local_edge_few : (c : Primitives) (plan : ℕ → ℕ) (t e : ℕ) → local_edge c plan t e ≤ length c.edges + 2
local_edge_few c plan t e =
    let few : rank (has_edge c plan t) e ≤ length c.edges + 1 = rank_last (has_edge c plan t) (length c.edges) (edges_within c plan t) e in
    omega arith

pub local_node_few : (c : Primitives) (plan : ℕ → ℕ) → IsWellFormed c → (t n : ℕ) → local_node c plan t n ≤ length c.nodes + 2
local_node_few c plan w t n =
    let few : rank (has_node c plan t) n ≤ length c.nodes + 1 = rank_last (has_node c plan t) (length c.nodes) (nodes_within c plan w t) n in
    omega arith

pub local_face_few : (c : Primitives) (plan : ℕ → ℕ) (t f : ℕ) → local_face c plan t f ≤ length c.faces + 3
local_face_few c plan t f =
    let few : rank (holds_face c plan t) f ≤ length c.faces + 1 = rank_last (holds_face c plan t) (length c.faces) (faces_within c plan t) f in
    omega arith

-- ---- rows

-- the number of a row that passes
pub record IsPassing (p : ℕ → Bool) (last x : ℕ) : Type 0 where
  pub passes : p x ≡ true
  pub row : IsRowOf last x

passing_from : (p : ℕ → Bool) (a n last : ℕ) → 1 ≤ a → a + n ≤ last + 1 → AllByRecursion (IsPassing p last) (filter p (range_with_len a n))
passing_from p a zero last low high = tt
passing_from p a (suc n) last low high =
    let rest : AllByRecursion (IsPassing p last) (filter p (range_with_len (a + 1) n)) = passing_from p (a + 1) n last (omega arith) (omega arith) in
    let top : a ≤ last = omega arith in
    elim (cases_Bool (p a)) [ inl t ↦ rw t (record { passes = t; row = (low, top) }, rest) | inr f ↦ rw f rest ]

-- the numbers to the last that pass are of rows
pub all_passing : (p : ℕ → Bool) (last : ℕ) → AllByRecursion (IsPassing p last) (filter p (up_to last))
all_passing p last = passing_from p 1 last last (omega arith) (omega arith)

-- the first item that passes is none behind the last
first_few : {X : Type 0} (k : ℕ) (p : X → Bool) (xs : List X) → first_from k p xs ≤ length xs + k
first_few k p [] = omega arith
first_few k p (x ∷ xs) =
    let rest : first_from (suc k) p xs ≤ length xs + suc k = first_few (suc k) p xs in
    elim (cases_Bool (p x)) [ inl t ↦ rw t (omega arith) | inr f ↦ rw f (omega arith) ]

pub first_item_few : {X : Type 0} (p : X → Bool) (xs : List X) → first_item p xs ≤ length xs + 1
first_item_few p xs = first_few 1 p xs
