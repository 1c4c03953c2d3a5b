-- The first edges of the nodes of a glued coverage, edge by edge.
use Rattle.std.proofs.Common.{[], ◌≡◌, ℕ, zero, suc, ◌+◌, ◌<◌, ◌≤◌, Bool, cond, eqb, ◌||◌, refl, sym, ap, ◌∙◌, subst, inl, inr, arith, List, ◌∷◌, ◌++◌, length, get_or, take, map, replicate}
use Rattle.std.specs.Prelude.{All}
use Rattle.std.proofs.lemmas.Bool.{cases_lt}
use Rattle.std.proofs.lemmas.List.{ext_get_or, get_or-replicate, get_or_past, length-replicate, length-take-le, take_all, take_more}
use Rattle.std.proofs.lemmas.List.Elements.{All-from_get_or}
use Rattle.std.proofs.lemmas.List.FromFn.{get_or-map-range_with_len, length-map-range_with_len}
use Rattle.vpf_cutting.specs.declared.copies.edges.EdgeNodes.{EdgeNodes}
use Rattle.vpf_prims.specs.Lists.{first_from, kth}
use Rattle.vpf_prims.specs.Numbering.{IsRowOf}
use Rattle.vpf_prims.specs.Primitives.{EdgePrimitive}
use Rattle.vpf_prims.specs.References.{id_of}
use Rattle.vpf_tiling.specs.Inner.RankLaws.{numbered_append, numbered_many}
use Rattle.vpf_tiling.specs.Ranks.{numbered, up_to}
use Rattle.vpf_tiling.specs.Tiles.{first_edge_at}
use Rattle.vpf_cutting.specs.Inner.Rows.{ArePutAt, first_or}
use Rattle.vpf_tiling_laws.specs.Gluing.Whole.{Whole}
use Rattle.vpf_tiling_laws.specs.Gluing.Glued.{first_darts, glued_edge, glued_edges, node_number, plus_darts}
use Rattle.vpf_cutting.specs.Inner.FirstLaws.{put_or_not, first_more, first_below, zeros}

-- so many edges are passed, and each node has the first of them that it has
pub record AreFirsts (W : Whole) (k : ℕ) (firsts : List ℕ) : Type 0 where
  pub nodes : length firsts ≡ length (first_darts W)
  pub each : (n : ℕ) → IsRowOf (length firsts) n → kth firsts n 0 ≡ first_edge_at n (numbered (glued_edge W) (take k (plus_darts W)))

-- one edge more
pub firsts_more : (W : Whole) (k d : ℕ) (ends : EdgeNodes) (old new : List ℕ) → k < length (plus_darts W) → get_or (plus_darts W) k 0 ≡ d
    → ends.start ≡ node_number W d → ends.end ≡ node_number W (W.darts.flip d) → AreFirsts W k old → ArePutAt ends (k + 1) old new
    → AreFirsts W (k + 1) new
firsts_more W k d ends old new below at start end f p = record {
  nodes = p.nodes ∙ f.nodes;
  each = λ n row. (
      let xs : List ℕ = plus_darts W in
      let make : ℕ → ℕ → EdgePrimitive = glued_edge W in
      let test : EdgePrimitive → Bool = λ r. eqb (id_of r.start_node) n || eqb (id_of r.end_node) n in
      let many : length (numbered make (take k xs)) ≡ k = numbered_many make 1 (take k xs) ∙ length-take-le k xs (omega arith) in
      let rows : numbered make (take (k + 1) xs) ≡ numbered make (take k xs) ++ make (k + 1) d ∷ [] =
      ap (numbered make) (take_more xs k 0 below ∙ ap (λ v. take k xs ++ v ∷ []) at) ∙ numbered_append make 1 (take k xs) (d ∷ [])
      ∙ ap (λ i. numbered make (take k xs) ++ make (i + 1) d ∷ []) (length-take-le k xs (omega arith)) in
      p.each n
      ∙ put_or_not (eqb ends.start n || eqb ends.end n) (kth old n 0) (k + 1)
      ∙ ap (λ v. first_or v (cond (eqb ends.start n || eqb ends.end n) (k + 1) 0)) (f.each n (subst (λ m. IsRowOf m n) p.nodes row))
      ∙ ap (λ x. first_or (first_edge_at n (numbered make (take k xs))) (cond (eqb x n || eqb ends.end n) (k + 1) 0)) start
      ∙ ap (λ x. first_or (first_edge_at n (numbered make (take k xs))) (cond (eqb (node_number W d) n || eqb x n) (k + 1) 0)) end
      ∙ ap (λ m. first_or (first_edge_at n (numbered make (take k xs))) (cond (test (make (k + 1) d)) (m + 1) 0)) (sym many)
      ∙ sym (first_more test 1 (numbered make (take k xs)) (make (k + 1) d) (omega arith))
      ∙ ap (first_edge_at n) (sym rows));
}

-- no edge is passed
pub firsts_none : (W : Whole) (firsts : List ℕ) → firsts ≡ zeros (length (first_darts W)) → AreFirsts W 0 firsts
firsts_none W firsts is = record {
  nodes = ap length is ∙ length-replicate (length (first_darts W)) 0;
  each = λ n row. ap (λ xs. kth xs n 0) is ∙ none_at (length (first_darts W)) n;
}
  where
    none_at : (m n : ℕ) → kth (zeros m) n 0 ≡ 0
    none_at m zero = refl
    none_at m (suc i) = (elim (cases_lt i m) [
      | inl lt ↦ get_or-replicate m i 0 0 lt
      | inr le ↦ (let many : length (zeros m) ≡ m = length-replicate m 0 in get_or_past (zeros m) i 0 (omega arith))
    ])

-- all edges are passed
pub firsts_are : (W : Whole) (k : ℕ) (firsts : List ℕ) → length (plus_darts W) ≤ k → AreFirsts W k firsts
    → firsts ≡ map (λ n. first_edge_at n (glued_edges W)) (up_to (length (first_darts W)))
firsts_are W k firsts all f =
    let n : ℕ = length (first_darts W) in
    let make : ℕ → ℕ = λ i. first_edge_at i (glued_edges W) in
    ext_get_or 0 firsts (map make (up_to n)) (f.nodes ∙ sym (length-map-range_with_len make 1 n))
    (λ i h. (
    let below : i < length (first_darts W) = subst (λ m. i < m) f.nodes h in
    f.each (suc i) (omega arith, omega arith)
    ∙ ap (λ xs. first_edge_at (suc i) (numbered (glued_edge W) xs)) (take_all k (plus_darts W) all)
    ∙ sym (get_or-map-range_with_len make 1 n i (suc i) 0 below (omega arith))))

pub firsts_few : (W : Whole) (most k : ℕ) (firsts : List ℕ) → length (plus_darts W) ≤ k → length (plus_darts W) ≤ most
    → AreFirsts W k firsts → All (λ first. first ≤ most) firsts
firsts_few W most k firsts all few f =
    All-from_get_or (λ first. first ≤ most) firsts 0
    (λ i h. (
    let test : EdgePrimitive → Bool = λ r. eqb (id_of r.start_node) (suc i) || eqb (id_of r.end_node) (suc i) in
    let xs : List ℕ = take k (plus_darts W) in
    let is : get_or firsts i 0 ≡ first_from 1 test (numbered (glued_edge W) xs) = f.each (suc i) (omega arith, omega arith) in
    let below : first_from 1 test (numbered (glued_edge W) xs) < 1 + length (numbered (glued_edge W) xs) =
    first_below test 1 (numbered (glued_edge W) xs) (omega arith) in
    let many : length (numbered (glued_edge W) xs) ≡ length (plus_darts W) =
    numbered_many (glued_edge W) 1 xs ∙ ap length (take_all k (plus_darts W) all) in
    omega arith))
