-- A coverage that is cut into tiles, by the tables of its tiles as they are made (MIL-STD-2407, 5.2.3, tiled coverages).
use Rattle.std.specs.Prelude.{◌≡◌, ℕ, true, Option, None, Some, if◌then◌else◌}
use Rattle.std.specs.Option.{option_map}
use Rattle.vpf_prims.specs.Coverages.{CoverageTables, last_tile, tile_at}
use Rattle.vpf_prims.specs.Reading.{PrimitiveTables, primitives_of}
use Rattle.vpf_prims.specs.Tables.{TileTables}
use Rattle.vpf_tiling.specs.Tiles.{is_made}
use Rattle.vpf_primitive_tables.specs.TileTables.Grids.{edges_made, entities_made, faces_made, nodes_made, rings_made}

-- the tables of a tile of the coverage of these tables, cut by a plan
abbrev pub tables_of_tile : PrimitiveTables → (ℕ → ℕ) → ℕ → PrimitiveTables
tables_of_tile T plan t = record {
  edg = edges_made T.edg (primitives_of T) plan t;
  fac = faces_made T.fac (primitives_of T) plan t;
  rng = rings_made T.rng (primitives_of T) plan t;
  cnd = nodes_made T.cnd (primitives_of T) plan t;
  end = option_map (λ grid. entities_made grid (primitives_of T) plan t) T.end;
}

-- the same of one of so many tiles, where it isn't empty
abbrev pub tables_if_any : PrimitiveTables → (ℕ → ℕ) → (tiles t : ℕ) → Option PrimitiveTables
tables_if_any T plan tiles t = if is_made (primitives_of T) plan tiles t then Some (tables_of_tile T plan t) else None

-- a coverage is that of these tables, cut by a plan into so many tiles
pub record IsCutInto (T : PrimitiveTables) (plan : ℕ → ℕ) (tiles : ℕ) (c : CoverageTables) : Type 0 where
  pub tiled : c.is_tiled ≡ true
  pub last : last_tile c ≡ tiles
  pub at : (t : ℕ) → option_map (λ (tile : TileTables). tile.tables) (tile_at c t) ≡ tables_if_any T plan tiles t
