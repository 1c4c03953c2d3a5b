-- The first edges of the nodes of a tile, edge by edge.
use Rattle.std.proofs.Common.{[], ◌≡◌, ℕ, zero, suc, ◌+◌, ◌^◌, ◌<◌, ◌≤◌, Bool, true, cond, eqb, ◌||◌, refl, sym, ap, ◌∙◌, subst, inl, inr, arith, List, ◌∷◌, ◌++◌, length, get_or, take, replicate}
use Rattle.std.specs.Prelude.{All}
use Rattle.std.proofs.Math.Seq.{take-suc}
use Rattle.std.proofs.lemmas.Bool.{cases_eq, cases_lt, eq-eqb, ne_eqb}
use Rattle.std.proofs.lemmas.List.{ext_get_or, get_or-replicate, get_or_past, length-replicate, length-take-le, take_all}
use Rattle.std.proofs.lemmas.List.Elements.{All-from_get_or}
use Rattle.std.proofs.lemmas.List.FromFn.{get_or-map-range_with_len, length-map-range_with_len}
use Rattle.vpf_cutting.specs.declared.copies.edges.EdgeNodes.{EdgeNodes}
use Rattle.vpf_darts.specs.Darts.{code}
use Rattle.vpf_prims.specs.Lists.{first_from, kth}
use Rattle.vpf_prims.specs.Numbering.{IsRowOf}
use Rattle.vpf_prims.specs.Primitives.{EdgePrimitive, Primitives, cross}
use Rattle.vpf_prims.specs.References.{id_of, plain}
use Rattle.vpf_tiling.specs.Presence.{has_node, head_of, local_node, present_edges, present_nodes}
use Rattle.vpf_tiling.specs.Inner.PresenceLaws.{AtNode, at_node, no_node_zero, present_has, tail_in_nodes}
use Rattle.vpf_wing.specs.WellFormed.{IsWellFormed}
use Rattle.vpf_tiling.specs.Inner.RankLaws.{count_is, numbered_append, numbered_many, rank_rises}
use Rattle.vpf_tiling.specs.Ranks.{numbered, rank}
use Rattle.vpf_tiling.specs.Tiles.{first_edge_at, reference_to, tiled_edge, tiled_edges}
use Rattle.vpf_cutting.specs.Inner.Rows.{ArePutAt, first_edges_of, first_or}
use Rattle.vpf_cutting.specs.Inner.FirstLaws.{put_or_not, first_more, first_below, zeros}

-- so many edges of a tile are passed, and each node has the first of them that it has
pub record AreFirsts (c : Primitives) (plan : ℕ → ℕ) (t k : ℕ) (firsts : List ℕ) : Type 0 where
  pub nodes : length firsts ≡ length (present_nodes c plan t)
  pub each : (n : ℕ) → IsRowOf (length firsts) n → kth firsts n 0 ≡ first_edge_at n (numbered (tiled_edge c plan t) (take k (present_edges c plan t)))

reference_here : (t s here there : ℕ) → id_of (reference_to t s here there) ≡ here
reference_here t s here there = elim (cases_eq s t) [
  | inl e ↦ ap (λ b. id_of (cond b (plain here) (cross here s there))) (eq-eqb s t e)
  | inr ne ↦ ap (λ b. id_of (cond b (plain here) (cross here s there))) (ne_eqb s t ne)
]

-- whether an edge of a tile is at a node
at_ends : (c : Primitives) (plan : ℕ → ℕ) (t k e n : ℕ)
    → (eqb (id_of (tiled_edge c plan t k e).start_node) n || eqb (id_of (tiled_edge c plan t k e).end_node) n)
    ≡ (eqb (local_node c plan t (head_of c (code 0 e 1))) n || eqb (local_node c plan t (head_of c (code 0 e 0))) n)
at_ends c plan t k e n =
    ap (λ x. eqb x n || eqb (id_of (tiled_edge c plan t k e).end_node) n) (reference_here t _ _ _)
    ∙ ap (λ x. eqb (local_node c plan t (head_of c (code 0 e 1))) n || eqb x n) (reference_here t _ _ _)

take_more : (xs : List ℕ) (k e : ℕ) → k < length xs → get_or xs k 0 ≡ e → take (k + 1) xs ≡ take k xs ++ e ∷ []
take_more xs k e h at =
    ap (λ i. take i xs) (let q : k + 1 ≡ suc k = omega arith in q) ∙ take-suc xs k 0 h ∙ ap (λ x. take k xs ++ x ∷ []) at

-- one edge more
pub firsts_more : (c : Primitives) (plan : ℕ → ℕ) (t k e : ℕ) (ends : EdgeNodes) (old new : List ℕ) → k < length (present_edges c plan t)
    → get_or (present_edges c plan t) k 0 ≡ e → ends.start ≡ local_node c plan t (head_of c (code 0 e 1)) → ends.end ≡ local_node c plan t (head_of c (code 0 e 0))
    → AreFirsts c plan t k old → ArePutAt ends (k + 1) old new → AreFirsts c plan t (k + 1) new
firsts_more c plan t k e ends old new below at start end f p = record {
  nodes = p.nodes ∙ f.nodes;
  each = λ n row. (
      let xs : List ℕ = present_edges c plan t in
      let make : ℕ → ℕ → EdgePrimitive = tiled_edge c plan t in
      let test : EdgePrimitive → Bool = λ r. eqb (id_of r.start_node) n || eqb (id_of r.end_node) n in
      let many : length (numbered make (take k xs)) ≡ k = numbered_many make 1 (take k xs) ∙ length-take-le k xs (omega arith) in
      let rows : numbered make (take (k + 1) xs) ≡ numbered make (take k xs) ++ make (k + 1) e ∷ [] =
      ap (numbered make) (take_more xs k e below at) ∙ numbered_append make 1 (take k xs) (e ∷ [])
      ∙ ap (λ i. numbered make (take k xs) ++ make (i + 1) e ∷ []) (length-take-le k xs (omega arith)) in
      p.each n
      ∙ put_or_not (eqb ends.start n || eqb ends.end n) (kth old n 0) (k + 1)
      ∙ ap (λ v. first_or v (cond (eqb ends.start n || eqb ends.end n) (k + 1) 0)) (f.each n (subst (λ m. IsRowOf m n) p.nodes row))
      ∙ ap (λ x. first_or (first_edge_at n (numbered make (take k xs))) (cond (eqb x n || eqb ends.end n) (k + 1) 0)) start
      ∙ ap (λ x. first_or (first_edge_at n (numbered make (take k xs))) (cond (eqb (local_node c plan t (head_of c (code 0 e 1))) n || eqb x n) (k + 1) 0)) end
      ∙ ap (λ x. first_or (first_edge_at n (numbered make (take k xs))) (cond x (k + 1) 0)) (sym (at_ends c plan t (k + 1) e n))
      ∙ ap (λ m. first_or (first_edge_at n (numbered make (take k xs))) (cond (test (make (k + 1) e)) (m + 1) 0)) (sym many)
      ∙ sym (first_more test 1 (numbered make (take k xs)) (make (k + 1) e) (omega arith))
      ∙ ap (first_edge_at n) (sym rows));
}

-- no edge is passed
pub firsts_none : (c : Primitives) (plan : ℕ → ℕ) (t : ℕ) (firsts : List ℕ) → firsts ≡ zeros (length (present_nodes c plan t)) → AreFirsts c plan t 0 firsts
firsts_none c plan t firsts is = record {
  nodes = ap length is ∙ length-replicate (length (present_nodes c plan t)) 0;
  each = λ n row. ap (λ xs. kth xs n 0) is ∙ none_at (length (present_nodes c plan t)) n;
}
  where
    none_at : (m n : ℕ) → kth (zeros m) n 0 ≡ 0
    none_at m zero = refl
    none_at m (suc i) = (elim (cases_lt i m) [
      | inl lt ↦ get_or-replicate m i 0 0 lt
      | inr le ↦ (let many : length (zeros m) ≡ m = length-replicate m 0 in get_or_past (zeros m) i 0 (omega arith))
    ])

-- all edges are passed
pub firsts_are : (c : Primitives) (plan : ℕ → ℕ) (t k : ℕ) (firsts : List ℕ) → length (present_edges c plan t) ≤ k → AreFirsts c plan t k firsts
    → firsts ≡ first_edges_of c plan t
firsts_are c plan t k firsts all f =
    let n : ℕ = length (present_nodes c plan t) in
    let make : ℕ → ℕ = λ i. first_edge_at i (tiled_edges c plan t) in
    ext_get_or 0 firsts (first_edges_of c plan t) (f.nodes ∙ sym (length-map-range_with_len make 1 n))
    (λ i h. (
    let below : i < length (present_nodes c plan t) = subst (λ m. i < m) f.nodes h in
    f.each (suc i) (omega arith, omega arith)
    ∙ ap (λ xs. first_edge_at (suc i) (numbered (tiled_edge c plan t) xs)) (take_all k (present_edges c plan t) all)
    ∙ sym (get_or-map-range_with_len make 1 n i (suc i) 0 below (omega arith))))

pub firsts_few : (c : Primitives) (plan : ℕ → ℕ) (t k : ℕ) (firsts : List ℕ) → length (present_edges c plan t) ≤ k → length (present_edges c plan t) < 2 ^ 24
    → AreFirsts c plan t k firsts → All (λ first. first < 2 ^ 24) firsts
firsts_few c plan t k firsts all few f =
    All-from_get_or (λ first. first < 2 ^ 24) firsts 0
    (λ i h. (
    let test : EdgePrimitive → Bool = λ r. eqb (id_of r.start_node) (suc i) || eqb (id_of r.end_node) (suc i) in
    let xs : List ℕ = take k (present_edges c plan t) in
    let is : get_or firsts i 0 ≡ first_from 1 test (numbered (tiled_edge c plan t) xs) = f.each (suc i) (omega arith, omega arith) in
    let below : first_from 1 test (numbered (tiled_edge c plan t) xs) < 1 + length (numbered (tiled_edge c plan t) xs) =
    first_below test 1 (numbered (tiled_edge c plan t) xs) (omega arith) in
    let many : length (numbered (tiled_edge c plan t) xs) ≡ length (present_edges c plan t) =
    numbered_many (tiled_edge c plan t) 1 xs ∙ ap length (take_all k (present_edges c plan t) all) in
    omega arith))

-- the number of a node of a tile is one of those there
pub node_within : (c : Primitives) (plan : ℕ → ℕ) (t n : ℕ) → IsWellFormed c → has_node c plan t n ≡ true → IsRowOf (length (present_nodes c plan t)) (local_node c plan t n)
node_within c plan t n w h =
    let a : AtNode c plan t n = at_node c plan t n h in
    let top : n ≤ length c.nodes = subst (λ k. k ≤ length c.nodes) a.tail (tail_in_nodes c w a.dart (present_has c plan t a.dart a.present)).to_last in
    let many : length (present_nodes c plan t) ≡ rank (has_node c plan t) (suc (length c.nodes)) = count_is (has_node c plan t) (no_node_zero c plan w t) (length c.nodes) in
    let below : rank (has_node c plan t) n < rank (has_node c plan t) (suc (length c.nodes)) = rank_rises (has_node c plan t) n (length c.nodes) h top in
    (omega arith, omega arith)
