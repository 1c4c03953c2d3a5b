-- How the tables of a glued coverage are written: like those of tiles.
use Rattle.std.specs.Prelude.{◌≡◌, IfSome, Some, codes}
use Rattle.std.specs.Option.{option_map}
use Rattle.vpf_triplet.specs.declared.kinds.Kind.TheVariants.{I}
use Rattle.vpf_prims.specs.Coverages.{CoverageTables}
use Rattle.vpf_prims.specs.Reading.{PrimitiveTables}
use Rattle.vpf_primitive_tables.specs.Inner.TableForms.Models.{PairsLike}
use Rattle.vpf_glue.specs.declared.glued_tables.forms.GluedForms.{GluedForms}
use Rattle.vpf_glue.specs.GluedTables.Grids.{glued_edge_grid, glued_entity_grid, glued_face_grid, glued_node_grid, glued_ring_grid}
use Rattle.vpf_glue.specs.Inner.Sources.{IsOfTile}

-- a table of entity nodes is written like one of a tile, with numbers of faces
pub record IsEndForm (c : CoverageTables) (end : PairsLike) : Type 0 where
  pub name : end.name ≡ codes "containing_face"
  pub like : IsOfTile (λ T. T.end) c end.table

-- tables are written like those of tiles, with numbers for references
pub record AreGluedForms (c : CoverageTables) (forms : GluedForms) : Type 0 where
  pub edg_ids : forms.edg.references ≡ I
  pub edg : IsOfTile (λ T. Some T.edg) c forms.edg.table
  pub fac_name : forms.fac.name ≡ codes "ring_ptr"
  pub fac : IsOfTile (λ T. Some T.fac) c forms.fac.table
  pub cnd_name : forms.cnd.name ≡ codes "first_edge"
  pub cnd : IsOfTile (λ T. Some T.cnd) c forms.cnd.table
  pub end : IfSome forms.end (IsEndForm c)

-- the tables that are written so
abbrev pub tables_by : GluedForms → CoverageTables → PrimitiveTables
tables_by forms c = record {
  edg = glued_edge_grid forms.edg.table c;
  fac = glued_face_grid forms.fac.table c;
  rng = glued_ring_grid forms.rng c;
  cnd = glued_node_grid forms.cnd.table c;
  end = option_map (λ (end : PairsLike). glued_entity_grid end.table c) forms.end;
}
