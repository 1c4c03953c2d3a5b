-- What contracts see of a tile, and what is so of each.
use Rattle.std.specs.Prelude.{◌≡◌, ◌<◌, ◌^◌}
use Rattle.vpf_prims.specs.declared.tile.Tile.TheInside.{Inside}
use Rattle.vpf_prims.specs.Edges.{edge_columns}
use Rattle.vpf_prims.specs.Inner.Owning.{NamesItsOwn}
use Rattle.vpf_prims.specs.Reading.{primitives_of}
use Rattle.vpf_prims.specs.Tables.{TileTables, edg_at}
use Rattle.vpf_prims.specs.Inner.Views.{AreColumnsOf, tables_in_view}

-- the tables, and the place of the first of their files
abbrev pub tables_of : Inside → TileTables
tables_of t = record { first = t.first; tables = tables_in_view t.views }

-- the columns, and what rows of edges say where that is kept, are those of the tables, whose rows name what is there; so few files come before
-- that theirs can be counted
pub record IsTile (t : Inside) : Type 0 where
  pub columns : AreColumnsOf (tables_in_view t.views) t.columns
  pub edges : t.columns.edges ≡ edge_columns (edg_at 0 (tables_of t)) t.views.edg.head.columns
  pub owns : NamesItsOwn (primitives_of (tables_in_view t.views))
  pub few : t.first < 2 ^ 31
