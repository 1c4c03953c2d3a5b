-- The columns of a table in the first tile that has it, where all tiles have the same.
use Rattle.std.proofs.Common.{[], ◌≡◌, ℕ, Bool, true, false, not, cond, List, ◌∷◌, map, slice_get, IfSome, Option, Some, None, refl, sym, ap, ◌∙◌, subst}
use Rattle.std.specs.List.{AllByRecursion, IsDistinct}
use Rattle.std.specs.Option.{option_map}
use Rattle.std.proofs.Math.ListN.{get_or-map}
use Rattle.std.proofs.lemmas.Option.{get_or_from_slice_get}
use Rattle.vpf_head.specs.Folding.{same_name}
use Rattle.vpf_head.specs.Head.{Col, names}
use Rattle.vpf_table.specs.Grid.{Grid}
use Rattle.vpf_prims.specs.Columns.{column_of}
use Rattle.vpf_prims.specs.Coverages.{CoverageTables}
use Rattle.vpf_prims.specs.Reading.{PrimitiveTables, has_role, primitives_of}
use Rattle.vpf_prims.specs.Roles.{Role}
use Rattle.vpf_prims.specs.Tables.{TileTables}
use Rattle.vpf_numbers.specs.Around.{around_of, columns_or, first_having, model_in}
use Rattle.vpf_numbers.specs.Matching.{AreLike, HaveSameColumns, form_of}
use Rattle.vpf_primitive_tables.specs.Inner.TileReading.Cuts.{IsCutInto, tables_if_any, tables_of_tile}
use Rattle.vpf_tiling.specs.Tiles.{is_made}
use Rattle.vpf_primitive_tables.proofs.tile_reading.OwnLemmas.{all_by_place, column_own}
use Rattle.vpf_primitive_tables.specs.Inner.TileReading.OwnLaws.{all_passing}

-- columns whose names are apart are like themselves
pub like_itself : (roles : List Role) (columns : List Col) → IsDistinct same_name (names columns) → HaveSameColumns roles columns columns
like_itself roles columns apart = record {
  places = λ name. refl;
  forms = all_passing (λ (column : Col). option_map form_of (column_of columns column.name) ≡ Some (form_of column))
      (λ column. not (has_role roles column)) columns
      (all_by_place (λ (column : Col). option_map form_of (column_of columns column.name) ≡ Some (form_of column)) columns (λ i column at.
      ap (option_map form_of) (column_own columns apart i column at)));
}

-- a table, where it is there, has these columns
abbrev pub HasThese : List Col → Option Grid → Type 0
HasThese columns grid = IfSome grid (λ grid. grid.head.columns ≡ columns)

-- the same of a table of a tile, where the tile has tables
abbrev pub AllThese : (PrimitiveTables → Option Grid) → List Col → Option PrimitiveTables → Type 0
AllThese table columns tables = IfSome tables (λ tables. HasThese columns (table tables))

-- the first tile that has the table has these columns
these_or : (columns : List Col) (grid : Option Grid) (others : Option (List Col)) → HasThese columns grid → IfSome others (λ there. there ≡ columns)
    → IfSome (columns_or grid others) (λ there. there ≡ columns)
these_or columns None others first rest = rest
these_or columns (Some grid) others first rest = first

first_these : (table : PrimitiveTables → Option Grid) (columns : List Col) (tiles : List (Option PrimitiveTables))
    → AllByRecursion (AllThese table columns) tiles → IfSome (first_having table tiles) (λ there. there ≡ columns)
first_these table columns [] all = tt
first_these table columns (None ∷ tiles) all = first_these table columns tiles all.1
first_these table columns (Some tables ∷ tiles) all = these_or columns (table tables) (first_having table tiles) all.0 (first_these table columns tiles all.1)

model_these : (b : Bool) (table : PrimitiveTables → Option Grid) (columns : List Col) (tiles : List (Option PrimitiveTables))
    → AllByRecursion (AllThese table columns) tiles → IfSome (model_in b table tiles) (λ there. there ≡ columns)
model_these true table columns tiles all = first_these table columns tiles all
model_these false table columns tiles all = tt

-- a tile has tables with these columns, or none
made_these : (b : Bool) (table : PrimitiveTables → Option Grid) (columns : List Col) (tables : PrimitiveTables) → HasThese columns (table tables)
    → AllThese table columns (cond b (Some tables) None)
made_these true table columns tables h = h
made_these false table columns tables h = tt

-- the tables of all tiles
all_these : (T : PrimitiveTables) (plan : ℕ → ℕ) (tiles : ℕ) (c : CoverageTables) → IsCutInto T plan tiles c
    → (table : PrimitiveTables → Option Grid) (columns : List Col) → ((t : ℕ) → HasThese columns (table (tables_of_tile T plan t)))
    → AllByRecursion (AllThese table columns) (around_of c).tiles
all_these T plan tiles c cut table columns h = all_by_place (AllThese table columns) (around_of c).tiles (λ t o at.
    subst (AllThese table columns) (sym (is t o at)) (made_these (is_made (primitives_of T) plan tiles t) table columns (tables_of_tile T plan t) (h t)))
  where
    is : (t : ℕ) (o : Option PrimitiveTables) → slice_get (map (option_map (λ (tile : TileTables). tile.tables)) c.tiles) t ≡ Some o
        → o ≡ tables_if_any T plan tiles t
    is t o at =
        sym (get_or_from_slice_get (map (option_map (λ (tile : TileTables). tile.tables)) c.tiles) t o None at)
        ∙ get_or-map (option_map (λ (tile : TileTables). tile.tables)) c.tiles t None ∙ cut.at t

-- columns are like those of the first tile, where these are the same
like_model : (roles : List Role) (columns : List Col) (model : Option (List Col)) → HaveSameColumns roles columns columns
    → IfSome model (λ there. there ≡ columns) → AreLike roles model columns
like_model roles columns None own h = tt
like_model roles columns (Some there) own h = subst (HaveSameColumns roles columns) (sym h) own

-- columns that all tiles have are those of the first tile that has the table
pub like_first : (T : PrimitiveTables) (plan : ℕ → ℕ) (tiles : ℕ) (c : CoverageTables) → IsCutInto T plan tiles c
    → (table : PrimitiveTables → Option Grid) (roles : List Role) (columns : List Col) → IsDistinct same_name (names columns)
    → ((t : ℕ) → HasThese columns (table (tables_of_tile T plan t)))
    → AreLike roles (model_in (around_of c).is_tiled table (around_of c).tiles) columns
like_first T plan tiles c cut table roles columns apart h =
    like_model roles columns (model_in (around_of c).is_tiled table (around_of c).tiles) (like_itself roles columns apart)
    (model_these (around_of c).is_tiled table columns (around_of c).tiles (all_these T plan tiles c cut table columns h))
