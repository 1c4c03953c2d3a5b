-- There is no finding on loops exactly where they have two different faces.
use Rattle.std.proofs.Common.{◌≡◌, ◌≢◌, ℕ, zero, suc, ◌+◌, ◌-◌, ◌*◌, ◌/◌, ◌%◌, ◌^◌, ◌<◌, ◌≤◌, Bool, true, false, not, eqb, List, length, refl, sym, ap, subst, ◌∙◌, arith}
use Rattle.std.proofs.lemmas.List.{length-map}
use Rattle.vpf_darts.specs.Darts.{flip}
use Rattle.vpf_prims.specs.declared.rows.Edge.{Edge}
use Rattle.vpf_prims.specs.Primitives.{Library, untiled, edge_count}
use Rattle.vpf_prims.specs.Lists.{kth}
use Rattle.vpf_prims.specs.Reading.{primitives_of, edge_in_row}
use Rattle.vpf_wing.specs.Nexts.{no_edge, edge_at, tail, face}
use Rattle.vpf_wing.specs.Places.{flip_place}
use Rattle.vpf_wing.specs.CycleLines.{loop_line}
use Rattle.vpf_wing.specs.Links.{links_of, tail_node}
use Rattle.vpf_wing.specs.Inner.Laws.{LoopsDecide}
use Rattle.vpf_wing.proofs.LawFacts.{unless_holds, excludes_is, excludes_from}
use Rattle.vpf_findings.specs.Inner.FirstLaws.{unless_none}
use Rattle.vpf_wing.proofs.LawDarts.{AtPlace, number_at, at_place, number_dart}
use Rattle.vpf_wing.proofs.LawLinks.{rows_of, rows_count, number_face, number_tail, number_flip, flip_dart}
use Rattle.vpf_wing.proofs.LawRows.{row_none, row_silent}
use Rattle.vpf_wing.proofs.LawMap.{in_zero}

-- the edge of a row by its number
pub edge_of_row : (edges : List Edge) (k : ℕ) → 1 ≤ k → kth edges k no_edge ≡ edge_at edges k
edge_of_row edges zero h = absurd (omega arith)
edge_of_row edges (suc k) h = let z : suc k - 1 ≡ k = omega arith in rw z refl

-- the tails of both darts of an edge are its nodes
tails_by : (edges : List Edge) (k : ℕ) (m : Bool) → tail edges (record { edge = k; minus = m }) ≡ tail edges (record { edge = k; minus = not m })
    → (edge_at edges k).start_node ≡ (edge_at edges k).end_node
unfolding tail
tails_by edges k true e = sym e
tails_by edges k false e = e

tails_from : (edges : List Edge) (k : ℕ) (m : Bool) → (edge_at edges k).start_node ≡ (edge_at edges k).end_node
    → tail edges (record { edge = k; minus = m }) ≡ tail edges (record { edge = k; minus = not m })
unfolding tail
tails_from edges k true e = sym e
tails_from edges k false e = e

pub faces_by : (edges : List Edge) (k : ℕ) (m : Bool) → face edges (record { edge = k; minus = m }) ≡ face edges (record { edge = k; minus = not m })
    → (edge_at edges k).right_face ≡ (edge_at edges k).left_face
unfolding face
faces_by edges k true e = sym e
faces_by edges k false e = e

faces_from : (edges : List Edge) (k : ℕ) (m : Bool) → (edge_at edges k).right_face ≡ (edge_at edges k).left_face
    → face edges (record { edge = k; minus = m }) ≡ face edges (record { edge = k; minus = not m })
unfolding face
faces_from edges k true e = sym e
faces_from edges k false e = e

-- a dart has the face of the edge's other dart exactly where the edge has one face on both sides
pub one_face : (L : Library) (t p : ℕ) → p < 2 ^ 25 → ((links_of L).face (number_at t p)).id ≡ ((links_of L).face (flip (number_at t p))).id
    → (edge_at (rows_of L t) (p / 2 + 1)).right_face ≡ (edge_at (rows_of L t) (p / 2 + 1)).left_face
one_face L t p few e = faces_by (rows_of L t) (p / 2 + 1) (eqb (p % 2) 1) (
    sym (number_face L t p few) ∙ e ∙ ap (λ d. ((links_of L).face d).id) (number_flip t p)
    ∙ number_face L t (flip_place p) (omega arith) ∙ ap (face (rows_of L t)) (flip_dart p))

pub both_faces : (L : Library) (t p : ℕ) → p < 2 ^ 25 → (edge_at (rows_of L t) (p / 2 + 1)).right_face ≡ (edge_at (rows_of L t) (p / 2 + 1)).left_face
    → ((links_of L).face (number_at t p)).id ≡ ((links_of L).face (flip (number_at t p))).id
both_faces L t p few e =
    number_face L t p few ∙ faces_from (rows_of L t) (p / 2 + 1) (eqb (p % 2) 1) e ∙ ap (face (rows_of L t)) (sym (flip_dart p))
    ∙ sym (number_face L t (flip_place p) (omega arith)) ∙ ap (λ d. ((links_of L).face d).id) (sym (number_flip t p))

-- the same of its tail
one_tail : (L : Library) (t p : ℕ) → p < 2 ^ 25 → tail_node (links_of L) (number_at t p) ≡ tail_node (links_of L) (flip (number_at t p))
    → (edge_at (rows_of L t) (p / 2 + 1)).start_node ≡ (edge_at (rows_of L t) (p / 2 + 1)).end_node
one_tail L t p few e = tails_by (rows_of L t) (p / 2 + 1) (eqb (p % 2) 1) (
    sym (number_tail L t p few) ∙ e ∙ ap (tail_node (links_of L)) (number_flip t p)
    ∙ number_tail L t (flip_place p) (omega arith) ∙ ap (tail (rows_of L t)) (flip_dart p))

both_tails : (L : Library) (t p : ℕ) → p < 2 ^ 25 → (edge_at (rows_of L t) (p / 2 + 1)).start_node ≡ (edge_at (rows_of L t) (p / 2 + 1)).end_node
    → tail_node (links_of L) (number_at t p) ≡ tail_node (links_of L) (flip (number_at t p))
both_tails L t p few e =
    number_tail L t p few ∙ tails_from (rows_of L t) (p / 2 + 1) (eqb (p % 2) 1) e ∙ ap (tail (rows_of L t)) (sym (flip_dart p))
    ∙ sym (number_tail L t (flip_place p) (omega arith)) ∙ ap (tail_node (links_of L)) (sym (number_flip t p))

-- a loop of row k has no two faces alike
abbrev pub IsApart : Edge → Type 0
IsApart e = e.start_node ≡ e.end_node → e.right_face ≢ e.left_face

pub loops_decide : LoopsDecide
loops_decide T few =
    let c = primitives_of T.tables in
    let L : Library = untiled (primitives_of T.tables) in
    let edges : List Edge = rows_of (untiled (primitives_of T.tables)) 0 in
    let count : length edges ≡ edge_count L 0 = rows_count L 0 in
    let few' : edge_count L 0 < 2 ^ 24 = rw (length-map T.tables.edg.rows (edge_in_row T.tables.edg.head.columns)) few in (
      λ none d has tails faces. (
          let a : AtPlace L 0 d = at_place L 0 d (in_zero c d has) in
          let in' = a.below in
          let start = one_tail L 0 a.place (omega arith) (rw a.is tails) in
          let side = one_face L 0 a.place (omega arith) (rw a.is faces) in
          let line = row_none (loop_line 0 T) edges no_edge none (a.place / 2 + 1) (omega arith, omega arith) in
          let e : kth edges (a.place / 2 + 1) no_edge ≡ edge_at edges (a.place / 2 + 1) = edge_of_row edges (a.place / 2 + 1) (omega arith) in
          let line' = rw e at line in
          excludes_is _ _ _ _ (unless_none _ _ line') start side),
      λ loops. row_silent (loop_line 0 T) edges no_edge (λ k row.
          let low = row.0 in
          let high = row.1 in
          let at : (2 * (k - 1)) / 2 + 1 ≡ k = omega arith in
          let dart = number_dart L 0 (2 * (k - 1)) (omega arith) few' (omega arith) in
          let is : IsApart (edge_at edges ((2 * (k - 1)) / 2 + 1)) = λ start side.
          loops (number_at 0 (2 * (k - 1))) dart.has (both_tails L 0 (2 * (k - 1)) (omega arith) start) (both_faces L 0 (2 * (k - 1)) (omega arith) side) in
          let e : edge_at edges ((2 * (k - 1)) / 2 + 1) ≡ kth edges k no_edge = ap (edge_at edges) at ∙ sym (edge_of_row edges k low) in
          let is' : IsApart (kth edges k no_edge) = subst IsApart e is in
          unless_holds _ _ (excludes_from _ _ _ _ is')),
    )
