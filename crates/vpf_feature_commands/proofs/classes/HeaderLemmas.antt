-- The columns of a table in the first tile that has it.
use Rattle.std.proofs.Common.{◌≡◌, ◌∙◌, ℕ, zero, suc, List, [], ◌∷◌, drop, map, refl, ap, sym, Option, Some, None, option_map}
use Rattle.std.specs.Prelude.{slice_index_or}
use Rattle.vpf_findings.specs.declared.finding.TableName.{TableName}
use Rattle.vpf_findings.specs.declared.finding.TableName.TheVariants as names
use Rattle.vpf_head.specs.Head.{Col}
use Rattle.vpf_table.specs.Grid.{Grid}
use Rattle.vpf_prims.specs.Reading.{PrimitiveTables}
use Rattle.vpf_prims.specs.Tables.{TileTables, table_named}
use Rattle.vpf_numbers.specs.Around.{columns_or, first_having, grid_named}
use Rattle.vpf_feature_commands.specs.Classes.Keys.{columns_in_tile}

-- the tables of a tile that may be empty
abbrev pub own_tables : Option TileTables → Option PrimitiveTables
own_tables tile = option_map (λ (T : TileTables). T.tables) tile

-- the columns of the table of this name in the first of some tiles that has it
abbrev pub first_of : TableName → List (Option TileTables) → Option (List Col)
first_of name tiles = first_having (grid_named name) (map own_tables tiles)

-- a tile names its tables as a look round tiles does
same_named : (name : TableName) (T : TileTables) → table_named T name ≡ grid_named name T.tables
same_named names.Tileref T = refl
same_named names.Edg T = refl
same_named names.Fac T = refl
same_named names.Rng T = refl
same_named names.Cnd T = refl
same_named names.End T = refl
same_named names.Plan T = refl
same_named names.Fcs T = refl
same_named names.Feature T = refl
same_named names.Theme T = refl
same_named names.Alone T = refl

-- the columns of a table, or of later tiles
or_later : (table : Option Grid) (later : Option (List Col)) → option_map (λ (grid : Grid). grid.head.columns) table ≡ None → columns_or table later ≡ later
or_later None later e = refl
or_later (Some grid) later e = absurd (cc e)

at_once : (table : Option Grid) (later : Option (List Col)) (cols : List Col) → option_map (λ (grid : Grid). grid.head.columns) table ≡ Some cols → columns_or table later ≡ Some cols
at_once None later cols e = absurd (cc e)
at_once (Some grid) later cols e = e

-- a tile without the table is passed over
pub passed : (name : TableName) (tiles : List (Option TileTables)) (t : ℕ) → columns_in_tile name (slice_index_or tiles t None) ≡ None
    → first_of name (drop t tiles) ≡ first_of name (drop (suc t) tiles)
passed name [] zero e = refl
passed name [] (suc t) e = refl
passed name (None ∷ tiles) zero e = refl
passed name (Some T ∷ tiles) zero e =
    or_later (grid_named name T.tables) (first_of name tiles) (ap (option_map (λ (grid : Grid). grid.head.columns)) (sym (same_named name T)) ∙ e)
passed name (tile ∷ tiles) (suc t) e = passed name tiles t e

-- the first that has it tells the columns
pub found : (name : TableName) (tiles : List (Option TileTables)) (t : ℕ) (cols : List Col) → columns_in_tile name (slice_index_or tiles t None) ≡ Some cols
    → first_of name (drop t tiles) ≡ Some cols
found name [] zero cols e = absurd (cc e)
found name [] (suc t) cols e = absurd (cc e)
found name (None ∷ tiles) zero cols e = absurd (cc e)
found name (Some T ∷ tiles) zero cols e =
    at_once (grid_named name T.tables) (first_of name tiles) cols (ap (option_map (λ (grid : Grid). grid.head.columns)) (sym (same_named name T)) ∙ e)
found name (tile ∷ tiles) (suc t) cols e = found name tiles t cols e
