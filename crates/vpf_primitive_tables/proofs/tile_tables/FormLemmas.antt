-- The tables of a coverage and its primitives: how many rows they have, and what is written like them.
use Rattle.std.proofs.Common.{◌≡◌, ℕ, List, [], length, Option, Some, Result, sym, ap, ◌∙◌, subst}
use Rattle.std.specs.Option.{option_map, unwrap_or}
use Rattle.std.proofs.lemmas.List.{length-map}
use Rattle.vpf_table.specs.Grid.{Grid}
use Rattle.vpf_write.specs.Writing.{Writes}
use Rattle.vpf_write.specs.declared.writing.WriteError.{WriteError}
use Rattle.vpf_write.specs.declared.writing.Written.{Written}
use Rattle.vpf_prims.specs.Primitives.{Primitives, entities_in}
use Rattle.vpf_prims.specs.Reading.{PrimitiveTables, edge_in_row, entity_in_row, face_in_row, node_in_row, primitives_of, rows_said}
use Rattle.vpf_primitive_tables.specs.declared.tile_tables.forms.Forms.TheInside.{Inside}
use Rattle.vpf_primitive_tables.specs.Inner.TableForms.Models.{PairsLike}
use Rattle.vpf_primitive_tables.specs.TileTables.Grids.{pairs_made}
use Rattle.vpf_primitive_tables.specs.Inner.TileTables.Models.{tables_like}

-- the primitives are those of the tables
same_source : (source : Primitives) (f : Inside) (t : PrimitiveTables) → source ≡ primitives_of t → tables_like f ≡ t → source ≡ primitives_of (tables_like f)
same_source source f t e is = e ∙ ap primitives_of (sym is)

-- there are as many edges as rows
pub edge_rows : (source : Primitives) (f : Inside) (t : PrimitiveTables) → source ≡ primitives_of t → tables_like f ≡ t → length source.edges ≡ length f.edg.table.rows
edge_rows source f t e is = ap (λ (s : Primitives). length s.edges) (same_source source f t e is) ∙ length-map f.edg.table.rows (edge_in_row f.edg.table.head.columns)

-- as many faces
pub face_rows : (source : Primitives) (f : Inside) (t : PrimitiveTables) → source ≡ primitives_of t → tables_like f ≡ t → length source.faces ≡ length f.fac.table.rows
face_rows source f t e is = ap (λ (s : Primitives). length s.faces) (same_source source f t e is) ∙ length-map f.fac.table.rows (face_in_row f.fac.table.head.columns)

-- as many nodes
pub node_rows : (source : Primitives) (f : Inside) (t : PrimitiveTables) → source ≡ primitives_of t → tables_like f ≡ t → length source.nodes ≡ length f.cnd.table.rows
node_rows source f t e is = ap (λ (s : Primitives). length s.nodes) (same_source source f t e is) ∙ length-map f.cnd.table.rows (node_in_row f.cnd.table.head.columns)

-- and as many entity nodes, where they have a table
pub entity_rows : (source : Primitives) (f : Inside) (t : PrimitiveTables) (end : PairsLike) → source ≡ primitives_of t → tables_like f ≡ t → f.end ≡ Some end
    → length (entities_in (Some source)) ≡ length end.table.rows
entity_rows source f t end e is there =
    ap (λ (s : Primitives). length (entities_in (Some s))) (same_source source f t e is)
    ∙ ap (λ (o : Option PairsLike). length (unwrap_or (option_map (rows_said entity_in_row) (option_map (λ (end : PairsLike). end.table) o)) [])) there
    ∙ length-map end.table.rows (entity_in_row end.table.head.columns)

-- the table of entity nodes
pub entity_table : (f : Inside) (t : PrimitiveTables) (end : PairsLike) → tables_like f ≡ t → f.end ≡ Some end → t.end ≡ Some end.table
entity_table f t end is there = ap (λ (t : PrimitiveTables). t.end) (sym is) ∙ ap (λ (o : Option PairsLike). option_map (λ (end : PairsLike). end.table) o) there

-- what is written like one table is written like the same
pub written_like : (name shown : List ℕ) (g h : Grid) (names : ℕ → ℕ → ℕ) (rows same : List ℕ) (result : Result Written WriteError) → name ≡ shown → g ≡ h → rows ≡ same
    → Writes (pairs_made name g names rows) result → Writes (pairs_made shown h names same) result
written_like name shown g h names rows same result d e f w =
    subst (λ (name : List ℕ). Writes (pairs_made name h names same) result) d
    (subst (λ (g : Grid). Writes (pairs_made name g names same) result) e (subst (λ (rows : List ℕ). Writes (pairs_made name g names rows) result) f w))
