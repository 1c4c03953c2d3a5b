-- The tables of edges and of nodes, by the darts that their rows are of.
use Rattle.std.proofs.Common.{[], ◌≡◌, ℕ, Bool, true, false, cond, eqb, List, ◌∷◌, length, codes, Some, None, sym, ap, ◌∙◌, subst, inl, inr}
use Rattle.std.specs.Prelude.{filter}
use Rattle.std.specs.List.{AllByRecursion}
use Rattle.std.proofs.lemmas.Bool.{and_parts, cases_Bool}
use Rattle.vpf_value.specs.Values.{Value}
use Rattle.vpf_head.specs.Head.{Col}
use Rattle.vpf_table.specs.Grid.{Row}
use Rattle.vpf_triplet.specs.declared.triplets.Triplet.{Triplet}
use Rattle.vpf_darts.specs.Darts.{edge_in, flip, sign_in, tile_in}
use Rattle.vpf_darts.specs.Maps.{turn}
use Rattle.vpf_prims.specs.Coverages.{CoverageTables}
use Rattle.vpf_prims.specs.Libraries.{library_of}
use Rattle.vpf_prims.specs.Lists.{kth}
use Rattle.vpf_prims.specs.Numbering.{IsReference, IsRowOf}
use Rattle.vpf_prims.specs.Primitives.{EdgePrimitive, Library, NodePrimitive, absent_edge, absent_node, node_count, tile_edges, tile_nodes}
use Rattle.vpf_prims.specs.Reading.{PrimitiveTables, edge_in_row, node_in_row}
use Rattle.vpf_prims.specs.References.{id_of, plain}
use Rattle.vpf_write.specs.Revise.Revising.{revised}
use Rattle.vpf_wing.specs.Inner.DartLaws.{flip-edge, flip-tile, has-there}
use Rattle.vpf_wing.specs.Links.{DartLinks, edge_of_dart, is_minus, links_of, node_by, tail_node}
use Rattle.vpf_follow.specs.Following.{is_home}
use Rattle.vpf_tiling.specs.Ranks.{is_least}
use Rattle.vpf_tiling.specs.Tiles.{first_edge_at}
use Rattle.vpf_renumbering.specs.Glued.{first_darts, glued_edge, glued_edges, glued_node, plus_darts}
use Rattle.vpf_primitive_tables.specs.TableForms.Forms.{EdgeValues, edge_values_of, pair_values}
use Rattle.vpf_primitive_tables.specs.Inner.TileReading.NumberLaws.{read_numbered}
use Rattle.vpf_primitive_tables.specs.Inner.TileReading.OwnLaws.{all_passing}
use Rattle.vpf_glue.specs.GluedTables.Grids.{glued_edge_row, glued_node_row, number_values, whole_in}
use Rattle.vpf_glue.specs.Inner.GluedReading.Laws.{AreJoined, EdgesAreRead, NodesAreRead, glued_edge_columns, edge_with, pair_columns}
use Rattle.vpf_glue.proofs.glued_reading.RowLemmas.{edge_rows_say, node_rows_say}
use Rattle.vpf_glue.proofs.glued_reading.TileLemmas.{IsThere, edge_read, edge_there, edges_of, node_read, node_there, nodes_of, row_is, row_whole, tables_there}

-- ---- home darts

-- what passes a test passes it
all_true : {X : Type 0} (p : X → Bool) (xs : List X) → AllByRecursion (λ (x : X). p x ≡ true) (filter p xs)
all_true p [] = tt
all_true p (x ∷ xs) = elim (cases_Bool (p x)) [ inl t ↦ rw t (t, all_true p xs) | inr f ↦ rw f (all_true p xs) ]

abbrev IsHome : CoverageTables → ℕ → Type 0
IsHome c d = is_home (links_of (library_of c)) d ≡ true

order_home : (c : CoverageTables) → AllByRecursion (IsHome c) (whole_in c).order
order_home c = all_true (is_home (links_of (library_of c))) (links_of (library_of c)).darts

plus_home : (c : CoverageTables) → AllByRecursion (IsHome c) (plus_darts (whole_in c))
plus_home c = all_passing (IsHome c) (λ (d : ℕ). eqb (sign_in d) 0) (whole_in c).order (order_home c)

first_home : (c : CoverageTables) → AllByRecursion (IsHome c) (first_darts (whole_in c))
first_home c = all_passing (IsHome c) (is_least (turn (whole_in c).darts) (length (whole_in c).order)) (whole_in c).order (order_home c)

-- the edge of a home dart is there
home_there : (c : CoverageTables) (d : ℕ) → IsHome c d → IsThere (λ (T : PrimitiveTables). T.edg) c (tile_in d) (edge_in d)
home_there c d h =
    let C : DartLinks = links_of (library_of c) in
    let i = has-there (library_of c) d (and_parts (C.has d) _ h).0 in
    edge_there c (tile_in d) (edge_in d) (i.from_one, i.to_count)

at_home : {X : Type 0} (b : Bool) (x y : X) → b ≡ true → x ≡ cond b x y
at_home b x y e = sym (ap (λ (b : Bool). cond b x y) e)

-- ---- edges

-- what row k of edges says
edge_says : (c : CoverageTables) (first : PrimitiveTables) → AreJoined c first → (k d : ℕ) → IsHome c d
    → edge_in_row (glued_edge_columns first.edg) (glued_edge_row first.edg.head.columns c k d) ≡ glued_edge (whole_in c) k d
edge_says c first j k d h =
    let i = home_there c d h in
    let columns : List Col = first.edg.head.columns in
    let e : EdgePrimitive = glued_edge (whole_in c) k d in
    let v : EdgeValues = number_values e in
    let grid = i.T.tables.edg in
    let row : Row = kth grid.rows (edge_in d) [] in
    let filled = (j.whole (tile_in d) i.T i.at).0.edg in
    let C : DartLinks = links_of (library_of c) in
    let old : EdgePrimitive = edge_of_dart (library_of c) d in
    let mark : old.mark ≡ (whole_in c).mark d = at_home (is_home C d) old.mark None h in
    let carried : old.carried ≡ (whole_in c).carried d = at_home (is_home C d) old.carried [] h in
    let same : edge_with k v old ≡ e = λ i. record {
      id = Some k;
      start_node = e.start_node;
      end_node = e.end_node;
      right_face = e.right_face;
      left_face = e.left_face;
      right_edge = e.right_edge;
      left_edge = e.left_edge;
      mark = mark i;
      carried = carried i;
    } in
    ap (λ (row : Row). edge_in_row (glued_edge_columns first.edg) (revised (edge_values_of columns k v) row)) (row_is (λ (T : PrimitiveTables). T.edg) c (tile_in d) (edge_in d) i)
    ∙ edge_rows_say c first.edg grid (edges_of c first j (tile_in d) i.T i.at) row (row_whole grid (edge_in d) filled i.row) k v
    ∙ ap (edge_with k v) (sym (edge_read c (tile_in d) (edge_in d) i))
    ∙ same

pub edges_are_read : EdgesAreRead
edges_are_read c first j =
    read_numbered (IsHome c) (edge_in_row (glued_edge_columns first.edg)) (glued_edge_row first.edg.head.columns c) (glued_edge (whole_in c))
    (λ k d h. edge_says c first j k d h) 1 (plus_darts (whole_in c)) (plus_home c)

-- ---- nodes

-- what a reference names is a row
named_row : (L : Library) (t : ℕ) (r : Triplet) → IsReference L (node_count L) t r → IsRowOf (node_count L t) (id_of r)
named_row L t r (inl p) = subst (λ (r : Triplet). IsRowOf (node_count L t) (id_of r)) (sym p.is) (p.from_low, p.to_last)
named_row L t r (inr p) = subst (λ (r : Triplet). IsRowOf (node_count L t) (id_of r)) (sym p.is) p.here

either_node : (L : Library) (t : ℕ) (b : Bool) (e : EdgePrimitive) → IsReference L (node_count L) t e.start_node → IsReference L (node_count L) t e.end_node
    → IsRowOf (node_count L t) (id_of (node_by b e))
either_node L t true e start end = named_row L t e.start_node start
either_node L t false e start end = named_row L t e.end_node end

-- the node where a home dart begins
tail_there : (c : CoverageTables) (first : PrimitiveTables) → AreJoined c first → (d : ℕ) → IsHome c d
    → IsThere (λ (T : PrimitiveTables). T.cnd) c (tile_in d) (tail_node (links_of (library_of c)) d)
tail_there c first j d h =
    let L : Library = library_of c in
    let C : DartLinks = links_of L in
    let i = home_there c d h in
    let there = has-there L d (and_parts (C.has d) _ h).0 in
    let numbers = (j.agrees.numbered (tile_in d) (tables_there c (tile_in d) i.T i.at)).edges (edge_in d) (there.from_one, there.to_count) in
    let e : EdgePrimitive = edge_of_dart L d in
    let other : edge_of_dart L (flip d) ≡ e =
    ap (λ (t : ℕ). kth (tile_edges L t) (edge_in (flip d)) absent_edge) (flip-tile d) ∙ ap (λ (k : ℕ). kth (tile_edges L (tile_in d)) k absent_edge) (flip-edge d) in
    let own : IsRowOf (node_count L (tile_in d)) (id_of (node_by (is_minus (flip d)) e)) = either_node L (tile_in d) (is_minus (flip d)) e numbers.start_node numbers.end_node in
    node_there c (tile_in d) (tail_node C d) (subst (λ (e : EdgePrimitive). IsRowOf (node_count L (tile_in d)) (id_of (node_by (is_minus (flip d)) e))) (sym other) own)

-- what row k of nodes says
node_says : (c : CoverageTables) (first : PrimitiveTables) → AreJoined c first → (k d : ℕ) → IsHome c d
    → node_in_row (pair_columns (codes "first_edge") first.cnd) (glued_node_row first.cnd.head.columns c k d)
    ≡ glued_node (whole_in c) (glued_edges (whole_in c)) k d
node_says c first j k d h =
    let C : DartLinks = links_of (library_of c) in
    let t : ℕ = tile_in d in
    let n : ℕ = tail_node C d in
    let i = tail_there c first j d h in
    let columns : List Col = first.cnd.head.columns in
    let grid = i.T.tables.cnd in
    let edge : ℕ = first_edge_at k (glued_edges (whole_in c)) in
    let filled = (j.whole t i.T i.at).0.cnd in
    let old : List Value = (kth (tile_nodes (library_of c) t) n absent_node).carried in
    let carried : (node_in_row grid.head.columns (kth grid.rows n [])).carried ≡ (whole_in c).node d =
    ap (λ (p : NodePrimitive). p.carried) (sym (node_read c t n i)) ∙ at_home (is_home C d) old [] h in
    ap (λ (row : Row). node_in_row (pair_columns (codes "first_edge") first.cnd) (revised (pair_values (codes "first_edge") columns k edge) row))
    (row_is (λ (T : PrimitiveTables). T.cnd) c t n i)
    ∙ node_rows_say c first.cnd grid (nodes_of c first j t i.T i.at) (kth grid.rows n []) (row_whole grid n filled i.row) k edge
    ∙ (λ i. record { id = Some k; first_edge = plain edge; carried = carried i })

pub nodes_are_read : NodesAreRead
nodes_are_read c first j =
    read_numbered (IsHome c) (node_in_row (pair_columns (codes "first_edge") first.cnd)) (glued_node_row first.cnd.head.columns c)
    (glued_node (whole_in c) (glued_edges (whole_in c))) (λ k d h. node_says c first j k d h) 1 (first_darts (whole_in c)) (first_home c)
