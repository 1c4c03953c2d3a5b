-- What nodes and faces carry, by their rows.
use Rattle.std.proofs.Common.{◌≡◌, ℕ, zero, suc, ◌+◌, ◌-◌, ◌^◌, ◌<◌, ◌≤◌, Bool, true, false, not, Option, Some, None, is_some, List, [], ◌∷◌, length, map, get_or, refl, sym, ap, ◌∙◌}
use Rattle.std.specs.Option.{option_map, unwrap_or}
use Rattle.std.proofs.lemmas.List.{length-map}
use Rattle.vpf_triplet.specs.declared.triplets.Triplet.{Triplet}
use Rattle.vpf_table.specs.Grid.{Row, Grid}
use Rattle.vpf_findings.specs.Firsts.{unless}
use Rattle.vpf_findings.specs.Inner.FirstLaws.{over_pass, over_stop, over_end}
use Rattle.vpf_prims.specs.Columns.{in_table}
use Rattle.vpf_prims.specs.Coverages.{CoverageTables, tile_at}
use Rattle.vpf_prims.specs.Lists.{kth}
use Rattle.vpf_prims.specs.Primitives.{NodePrimitive, FacePrimitive, absent_node, absent_face, absent_edge, entities_in, faces_in, has_tables, nodes_in}
use Rattle.vpf_prims.specs.Reading.{entity_in_row, face_in_row, node_in_row, primitives_of}
use Rattle.vpf_prims.specs.References.{id_of}
use Rattle.vpf_prims.specs.Roles.{face_roles, node_roles}
use Rattle.vpf_prims.specs.Suiting.{carried_columns}
use Rattle.vpf_prims.specs.Tables.{TileTables, at_citation, fac_at}
use Rattle.vpf_wing.specs.Links.{Beyond, Link, beyond_of, node_by}
use Rattle.vpf_prims.specs.Libraries.{library_of, primitives_in}
use Rattle.vpf_follow.specs.SideLines.{node_citation}
use Rattle.vpf_cross.specs.Carrying.{Difference, carried_at, first_difference}
use Rattle.vpf_cross.specs.CarriedLines.{first_passing, first_tile, head_node_line, node_carried, shared_node_line, universe_carried, universe_line}
use Rattle.vpf_cross.proofs.CarryLemmas.{empty_carries, none_there}
use Rattle.vpf_cross.proofs.LinkLemmas.{node_at}

-- the parts of rows that are read one by one, where an absent thing has the part of an empty row
at_row : {R V : Type 0} (read : Row → R) (part : R → V) (absent : R) (rows : List Row) (i : ℕ) → part absent ≡ part (read [])
    → part (get_or (map read rows) i absent) ≡ part (read (get_or rows i []))
at_row read part absent [] i same = same
at_row read part absent (row ∷ rows) zero same = refl
at_row read part absent (row ∷ rows) (suc i) same = at_row read part absent rows i same

pub at_number : {R V : Type 0} (read : Row → R) (part : R → V) (absent : R) (rows : List Row) (n : ℕ) → part absent ≡ part (read [])
    → part (kth (map read rows) n absent) ≡ part (read (kth rows n []))
at_number read part absent rows zero same = same
at_number read part absent rows (suc i) same = at_row read part absent rows i same

-- what a node of a tile carries
pub node_there : (c : CoverageTables) (t : ℕ) (T : TileTables) (n : ℕ) → tile_at c t ≡ Some T → node_carried (library_of c) t n ≡ carried_at node_roles T.tables.cnd n
node_there c t T n e =
    ap (λ o. (kth (nodes_in (primitives_in o)) n absent_node).carried) e
    ∙ at_number (node_in_row T.tables.cnd.head.columns) (λ (p : NodePrimitive). p.carried) absent_node T.tables.cnd.rows n (empty_carries node_roles T.tables.cnd.head.columns)

no_node : (n : ℕ) → (kth {X = NodePrimitive} [] n absent_node).carried ≡ []
no_node zero = refl
no_node (suc n) = refl

node_absent : (c : CoverageTables) (t n : ℕ) → tile_at c t ≡ None → node_carried (library_of c) t n ≡ []
node_absent c t n e = ap (λ o. (kth (nodes_in (primitives_in o)) n absent_node).carried) e ∙ no_node n

-- and its universe
pub universe_there : (c : CoverageTables) (t : ℕ) (T : TileTables) → tile_at c t ≡ Some T → universe_carried (library_of c) t ≡ carried_at face_roles T.tables.fac 1
universe_there c t T e =
    ap (λ o. (kth (faces_in (primitives_in o)) 1 absent_face).carried) e
    ∙ at_number (face_in_row T.tables.fac.head.columns) (λ (p : FacePrimitive). p.carried) absent_face T.tables.fac.rows 1 (empty_carries face_roles T.tables.fac.head.columns)

universe_absent : (c : CoverageTables) (t : ℕ) → tile_at c t ≡ None → universe_carried (library_of c) t ≡ []
universe_absent c t e = ap (λ o. (kth (faces_in (primitives_in o)) 1 absent_face).carried) e

-- the line on a head node, by the row of its edge
head_line : (c : CoverageTables) (t : ℕ) (T : TileTables) (k : ℕ) (m : Bool) (r : Triplet) → tile_at c t ≡ Some T → k < 2 ^ 32 → r ≡ node_by m (kth (primitives_of T.tables).edges k absent_edge)
    → head_node_line (library_of c) t T k m ≡ shared_node_line (library_of c) t T k m (id_of r) (beyond_of r.tile r.ext)
head_line c t T k m r e h is =
    ap (λ (node : Link). shared_node_line (library_of c) t T k m node.id node.out) (node_at c t T k m e h)
    ∙ ap (λ (v : Triplet). shared_node_line (library_of c) t T k m (id_of v) (beyond_of v.tile v.ext)) (sym is)

-- it names none of another tile
pub head_alone : (c : CoverageTables) (t : ℕ) (T : TileTables) (k : ℕ) (m : Bool) (r : Triplet) → tile_at c t ≡ Some T → k < 2 ^ 32 → r ≡ node_by m (kth (primitives_of T.tables).edges k absent_edge)
    → beyond_of r.tile r.ext ≡ None → head_node_line (library_of c) t T k m ≡ None
head_alone c t T k m r e h is none = head_line c t T k m r e h is ∙ ap (shared_node_line (library_of c) t T k m (id_of r)) none

shared_absent : (c : CoverageTables) (t : ℕ) (T : TileTables) (k : ℕ) (m : Bool) (n : ℕ) (p : Beyond) → tile_at c p.tile ≡ None
    → shared_node_line (library_of c) t T k m n (Some p) ≡ None
shared_absent c t T k m n p none =
    rw (node_absent c p.tile p.id none, none_there (carried_columns node_roles T.tables.cnd.head.columns) (node_carried (library_of c) t n)) refl

-- it names one of a tile without tables
pub head_absent : (c : CoverageTables) (t : ℕ) (T : TileTables) (k : ℕ) (m : Bool) (r : Triplet) (p : Beyond) → tile_at c t ≡ Some T → k < 2 ^ 32 → r ≡ node_by m (kth (primitives_of T.tables).edges k absent_edge)
    → beyond_of r.tile r.ext ≡ Some p → tile_at c p.tile ≡ None → head_node_line (library_of c) t T k m ≡ None
head_absent c t T k m r p e h is some none =
    head_line c t T k m r e h is ∙ ap (shared_node_line (library_of c) t T k m (id_of r)) some ∙ shared_absent c t T k m (id_of r) p none

shared_there : (c : CoverageTables) (t : ℕ) (T U : TileTables) (k : ℕ) (m : Bool) (n : ℕ) (p : Beyond) → tile_at c t ≡ Some T → tile_at c p.tile ≡ Some U
    → shared_node_line (library_of c) t T k m n (Some p)
    ≡ option_map (λ (f : Difference). at_citation t T (node_citation m) 7 k f.here f.there) (first_difference (carried_columns node_roles T.tables.cnd.head.columns) (carried_at node_roles T.tables.cnd n) (carried_at node_roles U.tables.cnd p.id))
shared_there c t T U k m n p e f = rw (node_there c t T n e, node_there c p.tile U p.id f) refl

-- it names one of a tile with tables
pub head_there : (c : CoverageTables) (t : ℕ) (T U : TileTables) (k : ℕ) (m : Bool) (r : Triplet) (p : Beyond) → tile_at c t ≡ Some T → k < 2 ^ 32 → r ≡ node_by m (kth (primitives_of T.tables).edges k absent_edge)
    → beyond_of r.tile r.ext ≡ Some p → tile_at c p.tile ≡ Some U
    → head_node_line (library_of c) t T k m
    ≡ option_map (λ (f : Difference). at_citation t T (node_citation m) 7 k f.here f.there) (first_difference (carried_columns node_roles T.tables.cnd.head.columns) (carried_at node_roles T.tables.cnd (id_of r)) (carried_at node_roles U.tables.cnd p.id))
head_there c t T U k m r p e h is some f =
    head_line c t T k m r e h is ∙ ap (shared_node_line (library_of c) t T k m (id_of r)) some ∙ shared_there c t T U k m (id_of r) p e f

-- the line on the universe
pub universe_line_absent : (c : CoverageTables) (t first : ℕ) (T : TileTables) → first ≡ first_tile (library_of c) → tile_at c first ≡ None → universe_line (library_of c) t T ≡ None
universe_line_absent c t first T is none =
    let none' : tile_at c (first_tile (library_of c)) ≡ None = ap (tile_at c) (sym is) ∙ none in
    rw (universe_absent c (first_tile (library_of c)) none', none_there (carried_columns face_roles T.tables.fac.head.columns) (universe_carried (library_of c) t)) refl

pub universe_line_there : (c : CoverageTables) (t first : ℕ) (T U : TileTables) → first ≡ first_tile (library_of c) → tile_at c t ≡ Some T → tile_at c first ≡ Some U
    → universe_line (library_of c) t T
    ≡ option_map (λ (f : Difference). in_table (fac_at t T) 7 1 f.column f.here f.there) (first_difference (carried_columns face_roles T.tables.fac.head.columns) (carried_at face_roles T.tables.fac 1) (carried_at face_roles U.tables.fac 1))
universe_line_there c t first T U is e f =
    let f' : tile_at c (first_tile (library_of c)) ≡ Some U = ap (tile_at c) (sym is) ∙ f in
    rw (universe_there c t T e, universe_there c (first_tile (library_of c)) U f') refl

-- what a line finds by a difference
pub no_difference : {F : Type 0} (find : Difference → F) (line : Option F) (first : Option Difference) → line ≡ option_map find first → None ≡ first → line ≡ None
no_difference find line first is none = rw is (rw (← none) refl)

pub some_difference : {F : Type 0} (find : Difference → F) (line : Option F) (first : Option Difference) (d : Difference) → line ≡ option_map find first → Some d ≡ first → line ≡ Some (find d)
some_difference find line first d is some = rw is (rw (← some) refl)

-- the first tile with tables
pub first_found : (p : ℕ → Bool) (t n : ℕ) (whole : Option ℕ) → t < n → p t ≡ true → first_passing p t (n - t) ≡ whole → t ≡ unwrap_or whole 0
first_found p t n whole h is left =
    let some : first_passing p t (n - t) ≡ Some t = over_stop (λ t. unless (not (p t)) t) t n t h (rw is refl) in
    rw (sym left ∙ some) refl

pub first_passed : (p : ℕ → Bool) (t n : ℕ) (whole : Option ℕ) → t < n → p t ≡ false → first_passing p t (n - t) ≡ whole → first_passing p (t + 1) (n - (t + 1)) ≡ whole
first_passed p t n whole h out left = over_pass (λ t. unless (not (p t)) t) t n h (rw out refl) ∙ left

pub first_none : (p : ℕ → Bool) (t n : ℕ) (whole : Option ℕ) → n ≤ t → first_passing p t (n - t) ≡ whole → 0 ≡ unwrap_or whole 0
first_none p t n whole h left =
    let none : first_passing p t (n - t) ≡ None = over_end (λ t. unless (not (p t)) t) t n h in
    rw (sym left ∙ none) refl

-- a tile is there exactly where it has tables
pub tables_there : {X : Type 0} (f : X → TileTables) (o : Option X) (c : CoverageTables) (t : ℕ) → option_map f o ≡ tile_at c t → is_some o ≡ has_tables (library_of c) t
tables_there f None c t e = rw (← e) refl
tables_there f (Some x) c t e = rw (← e) refl

-- how many entity nodes there are, where they have a table
pub entities_count : (T : TileTables) (end : Grid) → Some end ≡ T.tables.end → length (entities_in (Some (primitives_of T.tables))) ≡ length end.rows
entities_count T end e = rw (← e) (length-map end.rows (entity_in_row end.head.columns))
