-- The tables that those of tiles are written like, as the code keeps them.
use Rattle.std.specs.Prelude.{◌≡◌, Option, Some, None, codes}
use Rattle.std.specs.Option.{option_map}
use Rattle.vpf_triplet.specs.declared.kinds.Kind.TheVariants as kinds
use Rattle.vpf_prims.specs.Reading.{PrimitiveTables}
use Rattle.vpf_primitive_tables.specs.Inner.TableForms.Models.{PairsLike}
use Rattle.vpf_primitive_tables.specs.declared.tile_tables.forms.Forms.TheInside.{Inside}

-- the columns of faces of entity nodes, where there is a table of them
abbrev pub NamesFaces : Option PairsLike → Type 0
NamesFaces None = Unit {0}
NamesFaces (Some end) = end.name ≡ codes "containing_face"

-- the tables
abbrev pub tables_like : Inside → PrimitiveTables
tables_like f = record {
  edg = f.edg.table;
  fac = f.fac.table;
  rng = f.rng;
  cnd = f.cnd.table;
  end = option_map (λ end. end.table) f.end;
}

-- edges name by ids, and each table with one column of references has its own
pub record AreForms (f : Inside) : Type 0 where
  pub ids : f.edg.references ≡ kinds.K
  pub ring_ptr : f.fac.name ≡ codes "ring_ptr"
  pub first_edge : f.cnd.name ≡ codes "first_edge"
  pub containing_face : NamesFaces f.end
