-- What a table without findings has, and what its first finding is.
use Rattle.std.proofs.Common.{◌≡◌, ℕ, Option, Some, None, List, length, map, refl, sym, ap, subst, ◌∙◌}
use Rattle.std.specs.Prelude.{All, Err}
use Rattle.std.proofs.lemmas.List.{length-map}
use Rattle.vpf_head.specs.Head.{Head}
use Rattle.vpf_darts.specs.declared.darts.Dart.{Dart}
use Rattle.vpf_darts.specs.declared.darts.TileDart.{TileDart}
use Rattle.vpf_darts.specs.Cycles.{IsListing}
use Rattle.vpf_darts.specs.Listings.{numbers_of}
use Rattle.vpf_darts.specs.Maps.{IsMap}
use Rattle.vpf_darts.specs.MapLists.{is_among, list_next}
use Rattle.vpf_findings.specs.declared.errors.FindError.{FindError}
use Rattle.vpf_findings.specs.declared.errors.FindError.TheVariants as found
use Rattle.vpf_findings.specs.Findings.{Disagreement, disagreement_of}
use Rattle.vpf_findings.specs.Firsts.{Tells}
use Rattle.vpf_findings.specs.Inner.FirstLaws.{or-none_both}
use Rattle.vpf_prims.specs.Grid.{Row, Grid}
use Rattle.vpf_prims.specs.declared.rows.Edge.{Edge}
use Rattle.vpf_prims.specs.Roles.{edge_roles}
use Rattle.vpf_prims.specs.Columns.{columns_finding}
use Rattle.vpf_prims.specs.Edges.{EdgesAt, edge_columns, edge_of, edges_finding, HaveWings}
use Rattle.vpf_prims.specs.Inner.Laws.{RowsHaveWings}
use Rattle.vpf_wing.specs.Nexts.{AreNexts}
use Rattle.vpf_wing.specs.Wings.{wings_finding, number_cell}
use Rattle.vpf_wing.specs.Boundaries.{map_of, untiled_edges, ranges_of, table_columns, table_edges, rows_finding, table_finding, IsBoundaryListing}
use Rattle.vpf_wing.proofs.MapLemmas.{is_map, makes_map}
use Rattle.vpf_wing.proofs.ListLemmas.{listed}

-- no finding at all: none on columns, on rows, on wings
pub record NoFindings (grid : Grid) : Type 0 where
  pub columns : columns_finding untiled_edges grid.head.columns edge_roles ≡ None
  pub rows : edges_finding (table_columns grid) (ranges_of (length grid.rows)) grid.rows ≡ None
  pub wings : wings_finding (table_columns grid) (number_cell (table_edges grid)) (table_edges grid) ≡ None

pub no_findings : (grid : Grid) → table_finding grid ≡ None → NoFindings grid
unfolding table_finding
no_findings grid h =
    let columns = table_columns grid in
    let a = or-none_both (columns_finding untiled_edges grid.head.columns edge_roles) (rows_finding columns grid.rows) h in
    let b = or-none_both (edges_finding columns (ranges_of (length grid.rows)) grid.rows) (wings_finding columns (number_cell (table_edges grid)) (table_edges grid)) a.1 in
    record { columns = a.0; rows = b.0; wings = b.1 }

-- wings among so many edges are among the edges
pub wings_of_rows : (columns : EdgesAt) (rows : List Row) → HaveWings (length rows) (map (edge_of columns) rows) → HaveWings (length (map (edge_of columns) rows)) (map (edge_of columns) rows)
wings_of_rows columns rows h = subst (λ (n : ℕ). HaveWings n (map (edge_of columns) rows)) (sym (length-map rows (edge_of columns))) h

-- the edges of a table without findings are a map
pub edges_are_map : RowsHaveWings → (grid : Grid) → NoFindings grid → IsMap (map_of (table_edges grid))
edges_are_map have grid none = is_map (table_edges grid) (wings_of_rows (table_columns grid) grid.rows (have (table_columns grid) (ranges_of (length grid.rows)) grid.rows none.rows)) (makes_map (table_columns grid) (number_cell (table_edges grid)) (table_edges grid) none.wings)

-- a call tells what another does, where its finding is that of the other
pub tells_on : (e : FindError) (a b : Option Disagreement) → ((f : Disagreement) → a ≡ Some f → b ≡ Some f) → Tells {V = ℕ} (Err e) a → Tells {V = ℕ} (Err e) b
tells_on (found.Finding f) a b on h = on (disagreement_of f) h
tells_on found.NoMemory a b on h = tt

-- each way in which there is a finding
pub columns_first : (grid : Grid) (f : Disagreement) → columns_finding untiled_edges grid.head.columns edge_roles ≡ Some f → table_finding grid ≡ Some f
unfolding table_finding
columns_first grid f h = rw h refl

pub rows_first : (grid : Grid) (f : Disagreement) → columns_finding untiled_edges grid.head.columns edge_roles ≡ None → edges_finding (table_columns grid) (ranges_of (length grid.rows)) grid.rows ≡ Some f → table_finding grid ≡ Some f
unfolding table_finding
rows_first grid f none h = rw (none, h) refl

pub wings_first : (grid : Grid) (first : Option Disagreement) → columns_finding untiled_edges grid.head.columns edge_roles ≡ None → edges_finding (table_columns grid) (ranges_of (length grid.rows)) grid.rows ≡ None
    → wings_finding (table_columns grid) (number_cell (table_edges grid)) (table_edges grid) ≡ first → table_finding grid ≡ first
unfolding table_finding
wings_first grid first columns rows h = rw (columns, rows) h

-- what is known once the columns are
pub record IsRead (grid : Grid) (columns : EdgesAt) : Type 0 where
  pub is : columns ≡ table_columns grid
  pub none : columns_finding untiled_edges grid.head.columns edge_roles ≡ None

pub is_read : (grid : Grid) (head : Head) (columns : EdgesAt) → head ≡ grid.head → columns_finding untiled_edges head.columns edge_roles ≡ None → columns ≡ edge_columns untiled_edges head.columns → IsRead grid columns
is_read grid head columns e none is = record {
  is = subst (λ (h : Head). columns ≡ edge_columns untiled_edges h.columns) e is;
  none = subst (λ (h : Head). columns_finding untiled_edges h.columns edge_roles ≡ None) e none;
}

-- a finding on columns is told
pub tells_columns : (grid : Grid) (head : Head) (e : FindError) → head ≡ grid.head → Tells {V = ℕ} (Err e) (columns_finding untiled_edges head.columns edge_roles) → Tells {V = ℕ} (Err e) (table_finding grid)
tells_columns grid head e same = tells_on e (columns_finding untiled_edges head.columns edge_roles) (table_finding grid) (λ f h. columns_first grid f (subst (λ (h : Head). columns_finding untiled_edges h.columns edge_roles ≡ Some f) same h))

-- a finding on rows is told
pub tells_rows : (grid : Grid) (columns : EdgesAt) (n : ℕ) (e : FindError) → IsRead grid columns → n ≡ length grid.rows → Tells {V = ℕ} (Err e) (edges_finding columns (ranges_of n) grid.rows) → Tells {V = ℕ} (Err e) (table_finding grid)
tells_rows grid columns n e r count = tells_on e (edges_finding columns (ranges_of n) grid.rows) (table_finding grid) (λ f h.
    rows_first grid f r.none (subst (λ (c : EdgesAt). edges_finding c (ranges_of (length grid.rows)) grid.rows ≡ Some f) r.is (subst (λ (m : ℕ). edges_finding columns (ranges_of m) grid.rows ≡ Some f) count h)))

-- what is known once the edges are
pub record HasEdges (grid : Grid) (columns : EdgesAt) (n : ℕ) (edges : List Edge) : Type 0 where
  pub read : IsRead grid columns
  pub count : n ≡ length grid.rows
  pub are : edges ≡ map (edge_of columns) grid.rows
  pub none : edges_finding columns (ranges_of n) grid.rows ≡ None
  pub wings : HaveWings n edges

-- they are those of the grid
pub edges_are : (grid : Grid) (columns : EdgesAt) (n : ℕ) (edges : List Edge) → HasEdges grid columns n edges → edges ≡ table_edges grid
edges_are grid columns n edges h = h.are ∙ ap (λ (c : EdgesAt). map (edge_of c) grid.rows) h.read.is

-- their wings are among them
pub among_them : (grid : Grid) (columns : EdgesAt) (n : ℕ) (edges : List Edge) → HasEdges grid columns n edges → HaveWings (length edges) edges
among_them grid columns n edges h =
    let count : n ≡ length edges = h.count ∙ sym (length-map grid.rows (edge_of columns)) ∙ ap length (sym h.are) in
    subst (λ (m : ℕ). HaveWings m edges) count h.wings

-- what is said of wings is the first finding
pub wings_decide : (grid : Grid) (columns : EdgesAt) (n : ℕ) (edges : List Edge) (first : Option Disagreement) → HasEdges grid columns n edges → wings_finding columns (number_cell edges) edges ≡ first → table_finding grid ≡ first
wings_decide grid columns n edges first h w =
    let rows : edges_finding columns (ranges_of (length grid.rows)) grid.rows ≡ None = subst (λ (m : ℕ). edges_finding columns (ranges_of m) grid.rows ≡ None) h.count h.none in
    let w' : wings_finding columns (number_cell (table_edges grid)) (table_edges grid) ≡ first = subst (λ (es : List Edge). wings_finding columns (number_cell es) es ≡ first) (edges_are grid columns n edges h) w in
    wings_first grid first h.read.none
    (subst (λ (c : EdgesAt). edges_finding c (ranges_of (length grid.rows)) grid.rows ≡ None) h.read.is rows)
    (subst (λ (c : EdgesAt). wings_finding c (number_cell (table_edges grid)) (table_edges grid) ≡ first) h.read.is w')

-- a finding on wings is told
pub tells_wings : (grid : Grid) (columns : EdgesAt) (n : ℕ) (edges : List Edge) (e : FindError) → HasEdges grid columns n edges → Tells {V = ℕ} (Err e) (wings_finding columns (number_cell edges) edges) → Tells {V = ℕ} (Err e) (table_finding grid)
tells_wings grid columns n edges e h = tells_on e (wings_finding columns (number_cell edges) edges) (table_finding grid) (λ f w. wings_decide grid columns n edges (Some f) h w)

-- edges without findings are a map
pub mapped : (grid : Grid) (columns : EdgesAt) (n : ℕ) (edges : List Edge) → HasEdges grid columns n edges → wings_finding columns (number_cell edges) edges ≡ None → IsMap (map_of edges)
mapped grid columns n edges h w = is_map edges (among_them grid columns n edges h) (makes_map columns (number_cell edges) edges w)

-- the listing of the nexts is that of the table
pub boundary : (grid : Grid) (columns : EdgesAt) (n : ℕ) (edges : List Edge) (nexts : List Dart) (lists : List (List TileDart)) → HasEdges grid columns n edges → AreNexts edges nexts
    → IsListing (list_next nexts) (is_among (length nexts)) (numbers_of lists) → All (All (λ d. d.tile ≡ 0)) lists → IsBoundaryListing grid lists
boundary grid columns n edges nexts lists h are listing untiled = record {
  listing = subst (λ (es : List Edge). IsListing (map_of es).next (map_of es).live (numbers_of lists)) (edges_are grid columns n edges h) (listed edges nexts (numbers_of lists) are listing);
  untiled = untiled;
}
