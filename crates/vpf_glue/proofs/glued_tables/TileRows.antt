-- The rows of the tables of a coverage's tiles fit the tables that are written like another tile's.
use Rattle.std.proofs.Common.{[], ◌≡◌, ℕ, zero, suc, Bool, true, false, List, ◌∷◌, get_or, Option, Some, None, slice_get, refl, sym, ap, ◌∙◌, subst, inl, inr, arith}
use Rattle.std.specs.Prelude.{All, codes, ◌⊎◌}
use Rattle.std.specs.List.{IsDistinct}
use Rattle.std.specs.Option.{option_and_then}
use Rattle.std.proofs.lemmas.Bool.{cases_Bool, false≢true}
use Rattle.std.proofs.lemmas.List.Elements.{All-get_or}
use Rattle.std.proofs.lemmas.Option.{get_or_from_slice_get, slice_get_within}
use Rattle.vpf_triplet.specs.declared.kinds.Count.TheVariants.{Fixed}
use Rattle.vpf_triplet.specs.declared.kinds.Kind.{Kind}
use Rattle.vpf_triplet.specs.declared.kinds.Kind.TheVariants as kinds
use Rattle.vpf_triplet.specs.Kinds.{allows}
use Rattle.vpf_head.specs.Folding.{same_name}
use Rattle.vpf_head.specs.Head.{Col, names}
use Rattle.vpf_head.specs.Inner.Soundness.{IsCounted}
use Rattle.vpf_table.specs.Canonical.{FitsRow}
use Rattle.vpf_table.specs.Grid.{Grid, Row}
use Rattle.vpf_prims.specs.Columns.{column_of}
use Rattle.vpf_prims.specs.Coverages.{CoverageTables, tile_at}
use Rattle.vpf_prims.specs.Reading.{PrimitiveTables, has_role}
use Rattle.vpf_prims.specs.Roles.{Role, edge_roles, entity_roles, face_roles, is_mark, mark_role, node_roles, number_role, reference_role}
use Rattle.vpf_prims.specs.Suiting.{SuitsRole}
use Rattle.vpf_prims.specs.Tables.{TileTables}
use Rattle.vpf_numbers.specs.Around.{columns_or, first_having, model_in}
use Rattle.vpf_numbers.specs.Matching.{AreLike, HaveSameColumns, form_of}
use Rattle.vpf_write.specs.declared.revise.changes.NewKind.{NewKind}
use Rattle.vpf_write.specs.Revise.Revising.{FitsElsewhere, NewValue, with_kinds}
use Rattle.vpf_primitive_tables.specs.TableForms.Forms.{EdgeValues, edge_kinds_of, edge_values_of, named_value, natural_value, pair_kinds, pair_values}
use Rattle.vpf_primitive_tables.specs.Inner.TableForms.ColumnLaws.{one_value}
use Rattle.vpf_glue.specs.Inner.GluedTables.Laws.{AreOfTiles, FitThere}
use Rattle.vpf_glue.proofs.glued_tables.LikeRows.{AreAlike, KeepForms, PlacesColumns, carried_forms, fits_alike, none_of_both, stand_alike, unnamed}
use Rattle.vpf_glue.proofs.glued_tables.PlaceLemmas.{StandAlike, role_alike, same_too, stands_at}
use Rattle.vpf_base.proofs.Booleans.{either}
use Rattle.vpf_base.proofs.Lists.{within}
use Rattle.vpf_cross.specs.Inner.LikeLaws.{tables_of_tiles}

-- ---- two tiles

some_columns : (o : Option Grid) (rest : Option (List Col)) (g : Grid) → o ≡ Some g → columns_or o rest ≡ Some g.head.columns
some_columns None rest g e = absurd cc
some_columns (Some h) rest g e = (let same : h ≡ g = cc in ap (λ (g : Grid). Some g.head.columns) same)

either_columns : (o : Option Grid) (rest : Option (List Col)) → ((there : List Col) × (rest ≡ Some there)) → (there : List Col) × (columns_or o rest ≡ Some there)
either_columns None rest found = found
either_columns (Some h) rest found = (h.head.columns, refl)

-- where a tile has the table, some tile is the first
first_there : (of : PrimitiveTables → Option Grid) (tiles : List (Option TileTables)) (t : ℕ) (T : TileTables) (g : Grid) → get_or tiles t None ≡ Some T
    → of T.tables ≡ Some g → (there : List Col) × (first_having of (tables_of_tiles tiles) ≡ Some there)
first_there of [] t T g e has = absurd cc
first_there of (None ∷ tiles) zero T g e has = absurd cc
first_there of (Some U ∷ tiles) zero T g e has =
    let same : U ≡ T = cc in
    (g.head.columns, some_columns (of U.tables) (first_having of (tables_of_tiles tiles)) g (ap (λ (U : TileTables). of U.tables) same ∙ has))
first_there of (None ∷ tiles) (suc t) T g e has = first_there of tiles t T g e has
first_there of (Some U ∷ tiles) (suc t) T g e has =
    either_columns (of U.tables) (first_having of (tables_of_tiles tiles)) (first_there of tiles t T g e has)

-- the columns that all tables are to be like
abbrev model_of : CoverageTables → (PrimitiveTables → Option Grid) → Option (List Col)
model_of c of = model_in c.is_tiled of (tables_of_tiles c.tiles)

like_model : (roles : List Role) (model : Option (List Col)) (columns there : List Col) → model ≡ Some there → AreLike roles model columns → HaveSameColumns roles columns there
like_model roles model columns there e h = subst (λ (m : Option (List Col)). AreLike roles m columns) e h

-- two tables of a tiled coverage
alike_of : (roles : List Role) (of : PrimitiveTables → Option Grid) (c : CoverageTables) (like there : Grid) → AreOfTiles of c like there → c.is_tiled ≡ true
    → AreLike roles (model_of c of) like.head.columns → AreLike roles (model_of c of) there.head.columns → AreAlike roles like.head.columns there.head.columns
alike_of roles of c like there a tiled one other =
    let first = first_there of c.tiles a.tile a.T like a.has a.table in
    let model : model_of c of ≡ Some first.0 = ap (λ (b : Bool). model_in b of (tables_of_tiles c.tiles)) tiled ∙ first.1 in
    record {
      model = first.0;
      first = like_model roles (model_of c of) like.head.columns first.0 model one;
      second = like_model roles (model_of c of) there.head.columns first.0 model other;
      apart = a.apart;
      apart_there = a.apart_there;
    }

same_some : {X : Type 0} (x y : X) → Some x ≡ Some y → x ≡ y
same_some x y e = cc

-- a coverage that isn't tiled has one tile
only_table : (of : PrimitiveTables → Option Grid) (c : CoverageTables) (like there : Grid) → AreOfTiles of c like there → c.is_tiled ≡ false → like ≡ there
only_table of c like there a untiled =
    let one = a.library.one untiled in
    let low = within c.tiles a.tile a.T a.has in
    let other = within c.tiles a.other a.U a.has_other in
    let same : a.tile ≡ a.other = omega (arith, one, low, other) in
    let tiles : a.T ≡ a.U = same_some a.T a.U (sym a.has ∙ ap (tile_at c) same ∙ a.has_other) in
    same_some like there (sym a.table ∙ ap (λ (T : TileTables). of T.tables) tiles ∙ a.table_there)

-- two tables are alike, or one
alike_or_one : (roles : List Role) (of : PrimitiveTables → Option Grid) (c : CoverageTables) (like there : Grid) → AreOfTiles of c like there
    → AreLike roles (model_of c of) like.head.columns → AreLike roles (model_of c of) there.head.columns
    → AreAlike roles like.head.columns there.head.columns ⊎ (like ≡ there)
alike_or_one roles of c like there a one other =
    either c.is_tiled (λ tiled. inl (alike_of roles of c like there a tiled one other)) (λ untiled. inr (only_table of c like there a untiled))

abbrev like_of : CoverageTables → (PrimitiveTables → Option Grid) → List Role → Grid → Type 0
like_of c of roles g = AreLike roles (model_of c of) g.head.columns

-- those of edges
pub edges_alike : (c : CoverageTables) (like there : Grid) → AreOfTiles (λ (T : PrimitiveTables). Some T.edg) c like there
    → AreAlike edge_roles like.head.columns there.head.columns ⊎ (like ≡ there)
edges_alike c like there a =
    let of : PrimitiveTables → Option Grid = λ (T : PrimitiveTables). Some T.edg in
    alike_or_one edge_roles of c like there a (subst (like_of c of edge_roles) (same_some a.T.tables.edg like a.table) (a.columns.like_first a.tile a.T a.has).edg)
    (subst (like_of c of edge_roles) (same_some a.U.tables.edg there a.table_there) (a.columns.like_first a.other a.U a.has_other).edg)

-- those of faces
pub faces_alike : (c : CoverageTables) (like there : Grid) → AreOfTiles (λ (T : PrimitiveTables). Some T.fac) c like there
    → AreAlike face_roles like.head.columns there.head.columns ⊎ (like ≡ there)
faces_alike c like there a =
    let of : PrimitiveTables → Option Grid = λ (T : PrimitiveTables). Some T.fac in
    alike_or_one face_roles of c like there a (subst (like_of c of face_roles) (same_some a.T.tables.fac like a.table) (a.columns.like_first a.tile a.T a.has).fac)
    (subst (like_of c of face_roles) (same_some a.U.tables.fac there a.table_there) (a.columns.like_first a.other a.U a.has_other).fac)

-- those of connected nodes
pub nodes_alike : (c : CoverageTables) (like there : Grid) → AreOfTiles (λ (T : PrimitiveTables). Some T.cnd) c like there
    → AreAlike node_roles like.head.columns there.head.columns ⊎ (like ≡ there)
nodes_alike c like there a =
    let of : PrimitiveTables → Option Grid = λ (T : PrimitiveTables). Some T.cnd in
    alike_or_one node_roles of c like there a (subst (like_of c of node_roles) (same_some a.T.tables.cnd like a.table) (a.columns.like_first a.tile a.T a.has).cnd)
    (subst (like_of c of node_roles) (same_some a.U.tables.cnd there a.table_there) (a.columns.like_first a.other a.U a.has_other).cnd)

-- those of entity nodes
pub entities_alike : (c : CoverageTables) (like there : Grid) → AreOfTiles (λ (T : PrimitiveTables). T.end) c like there
    → AreAlike entity_roles like.head.columns there.head.columns ⊎ (like ≡ there)
entities_alike c like there a =
    alike_or_one entity_roles (λ (T : PrimitiveTables). T.end) c like there a ((a.columns.like_first a.tile a.T a.has).end like a.table)
    ((a.columns.like_first a.other a.U a.has_other).end there a.table_there)

-- ---- tables with one column of references

-- their roles
abbrev pub pair_roles : List ℕ → List Role
pair_roles name = number_role (codes "id") ∷ reference_role name ∷ []

pair_forms : (name : List ℕ) (like there : List Col) (k n : ℕ) → AreAlike (pair_roles name) like there → KeepForms (pair_roles name) like there (pair_values name like k n)
pair_forms name like there k n a = λ c x y e f named none.
    let both = none_of_both (named_value like (codes "id") (natural_value k)) (named_value like name (natural_value n)) c none in
    let id : same_name (codes "id") x.name ≡ false = unnamed like (codes "id") (natural_value k) c x a.apart e both.0 in
    let reference : same_name name x.name ≡ false = unnamed like name (natural_value n) c x a.apart e both.1 in
    let out : has_role (pair_roles name) x ≡ false = rw (id, reference) refl in
    carried_forms (pair_roles name) like there c x y a e f out (sym (role_alike (pair_roles name) x y named) ∙ out)

-- the new kinds and values are the same in both
pair_kinds_same : (name : List ℕ) (like there : List Col) → StandAlike like there → pair_kinds name there ≡ pair_kinds name like
pair_kinds_same name like there alike = rw (alike (codes "id"), alike name) refl

pair_values_same : (name : List ℕ) (like there : List Col) (k n : ℕ) → StandAlike like there → pair_values name there k n ≡ pair_values name like k n
pair_values_same name like there k n alike = rw (alike (codes "id"), alike name) refl

-- what the law of own rows says
abbrev pub OwnPairsFit : Type 0
OwnPairsFit = (name : List ℕ) (columns : List Col) (row : Row) → FitsRow columns row → (k n : ℕ)
    → FitsElsewhere (pair_values name columns k n) (with_kinds (pair_kinds name columns) columns) row

pair_fits : PlacesColumns → OwnPairsFit → (name : List ℕ) (like there : List Col) (k n : ℕ) (row : Row) → AreAlike (pair_roles name) like there → FitsRow there row
    → FitsElsewhere (pair_values name like k n) (with_kinds (pair_kinds name like) like) row
pair_fits law own name like there k n row a fits =
    let alike = stand_alike (pair_roles name) like there a in
    let here : FitsElsewhere (pair_values name like k n) (with_kinds (pair_kinds name like) there) row =
    subst (λ (news : List NewKind). FitsElsewhere (pair_values name like k n) (with_kinds news there) row) (pair_kinds_same name like there alike)
    (subst (λ (values : List NewValue). FitsElsewhere values (with_kinds (pair_kinds name there) there) row) (pair_values_same name like there k n alike)
    (own name there row fits k n)) in
    fits_alike law (pair_roles name) like there (pair_kinds name like) (pair_values name like k n) row a (pair_forms name like there k n a) here

-- the rows of all tiles fit
pair_rows_fit : PlacesColumns → OwnPairsFit → (name : List ℕ) (like there : Grid) → AreAlike (pair_roles name) like.head.columns there.head.columns ⊎ (like ≡ there)
    → (k n : ℕ) → FitThere (pair_kinds name) (λ (columns : List Col). pair_values name columns k n) like there
pair_rows_fit law own name like there (inl a) k n = λ row fits. pair_fits law own name like.head.columns there.head.columns k n row a fits
pair_rows_fit law own name like there (inr one) k n = λ row fits.
    own name like.head.columns row (subst (λ (g : Grid). FitsRow g.head.columns row) (sym one) fits) k n

-- ---- edges

marked : (kind : Kind) → is_mark kind ≡ true → kind ≡ kinds.S
marked kinds.S e = refl
marked kind e = absurd (false≢true e)

-- a column of marks has one number of 2 bytes
mark_form : (x : Col) → is_mark x.kind ≡ true → IsCounted x → form_of x ≡ (kinds.S, Fixed 1)
mark_form x e counted =
    let kind : x.kind ≡ kinds.S = marked x.kind e in
    let allowed : allows kinds.S x.count ≡ true = subst (λ (kind : Kind). allows kind x.count ≡ true) kind counted.allowed in
    let count : x.count ≡ Fixed 1 = one_value kinds.S x.count refl allowed in
    cc

counted_at : (columns : List Col) (c : ℕ) (x : Col) → All IsCounted columns → slice_get columns c ≡ Some x → IsCounted x
counted_at columns c x all e = subst IsCounted (get_or_from_slice_get columns c x x e) (All-get_or IsCounted columns c x (slice_get_within columns c x e) all)

-- the column of marks of a table
mark_at : (columns : List Col) (c : ℕ) (x : Col) → IsDistinct same_name (names columns) → All IsCounted columns → SuitsRole (mark_role (codes "tile_line")) (column_of columns (codes "tile_line"))
    → slice_get columns c ≡ Some x → same_name (codes "tile_line") x.name ≡ true → form_of x ≡ (kinds.S, Fixed 1)
mark_at columns c x apart counts suits e is =
    let place = stands_at columns (codes "tile_line") c x apart e is in
    let found : column_of columns (codes "tile_line") ≡ Some x = ap (λ (o : Option ℕ). option_and_then (slice_get columns) o) place ∙ e in
    mark_form x (subst (SuitsRole (mark_role (codes "tile_line"))) found suits) (counted_at columns c x counts e)

-- two tables of edges with columns of marks
pub record HaveMarks (like there : List Col) : Type 0 where
  pub counts : All IsCounted like
  pub suits : SuitsRole (mark_role (codes "tile_line")) (column_of like (codes "tile_line"))
  pub counts_there : All IsCounted there
  pub suits_there : SuitsRole (mark_role (codes "tile_line")) (column_of there (codes "tile_line"))

edge_forms : (like there : List Col) (k : ℕ) (v : EdgeValues) → AreAlike edge_roles like there → HaveMarks like there → KeepForms edge_roles like there (edge_values_of like k v)
edge_forms like there k v a m = λ c x y e f named none.
    let n0 = none_of_both (named_value like (codes "id") (natural_value k)) _ c none in
    let n1 = none_of_both (named_value like (codes "start_node") v.start_node) _ c n0.1 in
    let n2 = none_of_both (named_value like (codes "end_node") v.end_node) _ c n1.1 in
    let n3 = none_of_both (named_value like (codes "right_face") v.right_face) _ c n2.1 in
    let n4 = none_of_both (named_value like (codes "left_face") v.left_face) _ c n3.1 in
    let n5 = none_of_both (named_value like (codes "right_edge") v.right_edge) (named_value like (codes "left_edge") v.left_edge) c n4.1 in
    let id : same_name (codes "id") x.name ≡ false = unnamed like (codes "id") (natural_value k) c x a.apart e n0.0 in
    let start_node : same_name (codes "start_node") x.name ≡ false = unnamed like (codes "start_node") v.start_node c x a.apart e n1.0 in
    let end_node : same_name (codes "end_node") x.name ≡ false = unnamed like (codes "end_node") v.end_node c x a.apart e n2.0 in
    let right_face : same_name (codes "right_face") x.name ≡ false = unnamed like (codes "right_face") v.right_face c x a.apart e n3.0 in
    let left_face : same_name (codes "left_face") x.name ≡ false = unnamed like (codes "left_face") v.left_face c x a.apart e n4.0 in
    let right_edge : same_name (codes "right_edge") x.name ≡ false = unnamed like (codes "right_edge") v.right_edge c x a.apart e n5.0 in
    let left_edge : same_name (codes "left_edge") x.name ≡ false = unnamed like (codes "left_edge") v.left_edge c x a.apart e n5.1 in
    elim (cases_Bool (same_name (codes "tile_line") x.name)) [
      | inl is ↦
          mark_at like c x a.apart m.counts m.suits e is
          ∙ sym (mark_at there c y a.apart_there m.counts_there m.suits_there f (same_too (codes "tile_line") x.name y.name named ∙ is))
      | inr other ↦ (
          let out : has_role edge_roles x ≡ false = rw (id, start_node, end_node, right_face, left_face, right_edge, left_edge, other) refl in
          carried_forms edge_roles like there c x y a e f out (sym (role_alike edge_roles x y named) ∙ out))
    ]

edge_kinds_same : (like there : List Col) → StandAlike like there → edge_kinds_of kinds.I there ≡ edge_kinds_of kinds.I like
edge_kinds_same like there alike =
    rw (alike (codes "id"), alike (codes "start_node"), alike (codes "end_node"), alike (codes "right_face"), alike (codes "left_face"), alike (codes "right_edge"), alike (codes "left_edge")) refl

edge_values_same : (like there : List Col) (k : ℕ) (v : EdgeValues) → StandAlike like there → edge_values_of there k v ≡ edge_values_of like k v
edge_values_same like there k v alike =
    rw (alike (codes "id"), alike (codes "start_node"), alike (codes "end_node"), alike (codes "right_face"), alike (codes "left_face"), alike (codes "right_edge"), alike (codes "left_edge")) refl

-- what the law of own rows says
abbrev pub OwnEdgesFit : Type 0
OwnEdgesFit = (kind : Kind) (columns : List Col) (row : Row) → FitsRow columns row → (k : ℕ) (v : EdgeValues)
    → FitsElsewhere (edge_values_of columns k v) (with_kinds (edge_kinds_of kind columns) columns) row

edge_fits : PlacesColumns → OwnEdgesFit → (like there : List Col) (k : ℕ) (v : EdgeValues) (row : Row) → AreAlike edge_roles like there → HaveMarks like there → FitsRow there row
    → FitsElsewhere (edge_values_of like k v) (with_kinds (edge_kinds_of kinds.I like) like) row
edge_fits law own like there k v row a m fits =
    let alike = stand_alike edge_roles like there a in
    let here : FitsElsewhere (edge_values_of like k v) (with_kinds (edge_kinds_of kinds.I like) there) row =
    subst (λ (news : List NewKind). FitsElsewhere (edge_values_of like k v) (with_kinds news there) row) (edge_kinds_same like there alike)
    (subst (λ (values : List NewValue). FitsElsewhere values (with_kinds (edge_kinds_of kinds.I there) there) row) (edge_values_same like there k v alike)
    (own kinds.I there row fits k v)) in
    fits_alike law edge_roles like there (edge_kinds_of kinds.I like) (edge_values_of like k v) row a (edge_forms like there k v a m) here

either_fits : PlacesColumns → OwnEdgesFit → (like there : Grid) → AreAlike edge_roles like.head.columns there.head.columns ⊎ (like ≡ there)
    → HaveMarks like.head.columns there.head.columns → (k : ℕ) (v : EdgeValues)
    → FitThere (edge_kinds_of kinds.I) (λ (columns : List Col). edge_values_of columns k v) like there
either_fits law own like there (inl a) m k v = λ row fits. edge_fits law own like.head.columns there.head.columns k v row a m fits
either_fits law own like there (inr one) m k v = λ row fits.
    own kinds.I like.head.columns row (subst (λ (g : Grid). FitsRow g.head.columns row) (sym one) fits) k v

-- the table suits the role of marks
abbrev suits_marks : Grid → Type 0
suits_marks g = SuitsRole (mark_role (codes "tile_line")) (column_of g.head.columns (codes "tile_line"))

-- the rows of all tiles fit
pub edge_rows_fit : PlacesColumns → OwnEdgesFit → (c : CoverageTables) (like there : Grid) → AreOfTiles (λ (T : PrimitiveTables). Some T.edg) c like there
    → All IsCounted like.head.columns → All IsCounted there.head.columns → (k : ℕ) (v : EdgeValues)
    → FitThere (edge_kinds_of kinds.I) (λ (columns : List Col). edge_values_of columns k v) like there
edge_rows_fit law own c like there a counts counts_there k v =
    let suits = (a.columns.suit a.tile a.T a.has).edg in
    let suits_there = (a.columns.suit a.other a.U a.has_other).edg in
    let marks : HaveMarks like.head.columns there.head.columns = record {
      counts = counts;
      suits = subst suits_marks (same_some a.T.tables.edg like a.table) suits.1.1.1.1.1.1.1.0;
      counts_there = counts_there;
      suits_there = subst suits_marks (same_some a.U.tables.edg there a.table_there) suits_there.1.1.1.1.1.1.1.0;
    } in
    either_fits law own like there (edges_alike c like there a) marks k v

-- ---- faces, nodes and entity nodes

pub face_rows_fit : PlacesColumns → OwnPairsFit → (c : CoverageTables) (like there : Grid) → AreOfTiles (λ (T : PrimitiveTables). Some T.fac) c like there → (k n : ℕ)
    → FitThere (pair_kinds (codes "ring_ptr")) (λ (columns : List Col). pair_values (codes "ring_ptr") columns k n) like there
face_rows_fit law own c like there a k n = pair_rows_fit law own (codes "ring_ptr") like there (faces_alike c like there a) k n

pub node_rows_fit : PlacesColumns → OwnPairsFit → (c : CoverageTables) (like there : Grid) → AreOfTiles (λ (T : PrimitiveTables). Some T.cnd) c like there → (k n : ℕ)
    → FitThere (pair_kinds (codes "first_edge")) (λ (columns : List Col). pair_values (codes "first_edge") columns k n) like there
node_rows_fit law own c like there a k n = pair_rows_fit law own (codes "first_edge") like there (nodes_alike c like there a) k n

pub entity_rows_fit : PlacesColumns → OwnPairsFit → (c : CoverageTables) (like there : Grid) → AreOfTiles (λ (T : PrimitiveTables). T.end) c like there → (k n : ℕ)
    → FitThere (pair_kinds (codes "containing_face")) (λ (columns : List Col). pair_values (codes "containing_face") columns k n) like there
entity_rows_fit law own c like there a k n = pair_rows_fit law own (codes "containing_face") like there (entities_alike c like there a) k n
