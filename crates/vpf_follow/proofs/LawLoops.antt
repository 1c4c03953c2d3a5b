-- There is no finding on the loops of the tiles of a coverage exactly where they have two faces.
use Rattle.std.proofs.Common.{◌≡◌, ℕ, zero, suc, ◌+◌, ◌<◌, ◌≤◌, false, None, List, [], ◌∷◌, length, map, get_or, refl, sym, subst, arith}
use Rattle.std.proofs.Math.ListN.{get_or-map}
use Rattle.std.proofs.lemmas.List.{length-map}
use Rattle.vpf_darts.specs.Darts.{tile_in, edge_in}
use Rattle.vpf_findings.specs.Firsts.{first_of_rows}
use Rattle.vpf_findings.specs.Inner.FirstLaws.{rows_none}
use Rattle.vpf_prims.specs.Lists.{kth}
use Rattle.vpf_prims.specs.Primitives.{EdgePrimitive, absent_edge, own_edge}
use Rattle.vpf_prims.specs.Reading.{primitives_of}
use Rattle.vpf_prims.specs.Tables.{TileTables}
use Rattle.vpf_wing.specs.Links.{is_minus}
use Rattle.vpf_wing.specs.CycleLines.{loop_line, loops_finding}
use Rattle.vpf_prims.specs.Libraries.{library_of}
use Rattle.vpf_follow.specs.Inner.Laws.{TileLoopsDecide}
use Rattle.vpf_follow.specs.Inner.TileLaws.{TileOfDart, dart-tile, edge-dart, tiles-none, tiles-silent}
use Rattle.vpf_follow.proofs.LawSides.{HasTwoFaces, loop_none, loop_silent, has_loops, loops_have, of_row}

-- the edges of a tile
abbrev edges_of : TileTables → List EdgePrimitive
edges_of T = (primitives_of T.tables).edges

row_none : (t : ℕ) (T : TileTables) → loops_finding t T ≡ None → (k : ℕ) → 1 ≤ k → k ≤ length (edges_of T)
    → loop_line t T k (own_edge (kth (edges_of T) k absent_edge)) ≡ None
row_none t T none zero low high = absurd (omega arith)
row_none t T none (suc i) low high =
    let n : length (map own_edge (edges_of T)) ≡ length (edges_of T) = length-map (edges_of T) own_edge in
    let r : loop_line t T (1 + i) (get_or (map own_edge (edges_of T)) i (own_edge absent_edge)) ≡ None =
    rows_none (loop_line t T) 1 (map own_edge (edges_of T)) none i (own_edge absent_edge) (omega arith) in
    let e : 1 + i ≡ suc i = omega arith in
    subst (λ k. loop_line t T k (own_edge (get_or (edges_of T) i absent_edge)) ≡ None) e
    (subst (λ x. loop_line t T (1 + i) x ≡ None) (get_or-map own_edge (edges_of T) i absent_edge) r)

rows_silent : (t : ℕ) (T : TileTables) (k : ℕ) (rows : List EdgePrimitive)
    → ((i : ℕ) → i < length rows → loop_line t T (k + i) (own_edge (get_or rows i absent_edge)) ≡ None)
    → first_of_rows (loop_line t T) k (map own_edge rows) ≡ None
rows_silent t T k [] all = refl
rows_silent t T k (r ∷ rows) all =
    let e : k + zero ≡ k = omega arith in
    let here : loop_line t T k (own_edge r) ≡ None = rw e at (all zero (omega arith)) in
    rw here (rows_silent t T (suc k) rows (λ i h. let s : k + suc i ≡ suc k + i = omega arith in rw s at (all (suc i) (omega arith))))

pub tile_loops_decide : TileLoopsDecide
tile_loops_decide c few = (
  λ none. has_loops (library_of c) (λ d has. (
      let i : TileOfDart c d = dart-tile c d has in
      let here : loops_finding (tile_in d) i.tables ≡ None = tiles-none loops_finding c none (tile_in d) i.tables i.at in
      let line = row_none (tile_in d) i.tables here (edge_in d) i.from_one i.to_count in
      subst (λ e. HasTwoFaces e (is_minus d)) (sym i.edge)
      (loop_none (tile_in d) i.tables (edge_in d) (kth (primitives_of i.tables.tables).edges (edge_in d) absent_edge) line (is_minus d)))),
  λ h. tiles-silent loops_finding c (λ t T e.
      rows_silent t T 1 (edges_of T) (λ i lt. (
      let k : 1 + i ≡ suc i = omega arith in
      let two : HasTwoFaces (kth (edges_of T) (suc i) absent_edge) false =
      of_row c HasTwoFaces (loops_have (library_of c) h) t T (suc i) false (edge-dart c t T (suc i) false (few t) e (omega arith) (omega arith)) in
      subst (λ k. loop_line t T k (own_edge (get_or (edges_of T) i absent_edge)) ≡ None) (sym k)
      (loop_silent t T (suc i) (kth (edges_of T) (suc i) absent_edge) two)))),
)
