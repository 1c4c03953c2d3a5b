-- How features are printed.
use Rattle.std.specs.Prelude.{ℕ, Bool, List, [], length, codes, if◌then◌else◌}
use Rattle.std.specs.List.{flat_map}
use Rattle.std.specs.Fmt.{decimal}
use Rattle.vpf_findings.specs.Text.Texts.{◌&◌}
use Rattle.vpf_findings.specs.declared.finding.TableName.{TableName}
use Rattle.vpf_findings.specs.declared.finding.TableName.TheVariants as tables
use Rattle.vpf_joins.specs.declared.features.Primitive.{Primitive}
use Rattle.vpf_joins.specs.Features.{FeatureJoined}

-- the word for a table of primitives; features are joined to no other tables
abbrev pub table_word : TableName → List ℕ
table_word tables.Edg = codes "edg"
table_word tables.Fac = codes "fac"
table_word tables.Cnd = codes "cnd"
table_word tables.End = codes "end"
table_word table = codes ""

-- the tile that a primitive is in, where the coverage is in tiles
abbrev pub tile_text : (tiled : Bool) → ℕ → List ℕ
tile_text tiled tile = if tiled then decimal tile & codes ":" else []

-- a primitive, behind a space: its tile, its table and its row
abbrev pub primitive_text : (tiled : Bool) → Primitive → List ℕ
primitive_text tiled p = codes " " & tile_text tiled p.tile & table_word p.table & codes ":" & decimal p.row

-- .. several, one after another
abbrev pub primitives_text : (tiled : Bool) → List Primitive → List ℕ
primitives_text tiled primitives = flat_map (primitive_text tiled) primitives

-- the line of a feature: its row, and the primitives that are joined to it
abbrev pub feature_line : (tiled : Bool) → FeatureJoined → List ℕ
feature_line tiled feature = decimal feature.row & primitives_text tiled feature.primitives & codes "\n"

-- a line for each feature
abbrev pub feature_lines : (tiled : Bool) → List FeatureJoined → List ℕ
feature_lines tiled features = flat_map (feature_line tiled) features

-- the features, and how many there are
abbrev pub features_text : (tiled : Bool) → List FeatureJoined → List ℕ
features_text tiled features = feature_lines tiled features & codes "features " & decimal (length features) & codes "\n"
