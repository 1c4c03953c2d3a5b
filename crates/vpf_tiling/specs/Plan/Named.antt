-- The tiles that a plan names for the faces of a coverage.
use Rattle.std.specs.Prelude.{ℕ, ℤ, Bool, false, ◌==◌, List, [], ◌∷◌, map, Option, Some, None}
use Rattle.std.specs.List.{range_with_len}
use Rattle.vpf_table.specs.Grid.{Row, Grid}
use Rattle.vpf_findings.specs.Firsts.{◌or◌, where_holds}
use Rattle.vpf_prims.specs.Columns.{RoleAt, id_column}
use Rattle.vpf_prims.specs.Reading.{natural_in}
use Rattle.vpf_prims.specs.References.{cell_at, signed_in}
use Rattle.vpf_tiling.specs.Plan.Plans.{tile_column}

-- an id is this face
abbrev pub names_face : Option ℕ → ℕ → Bool
names_face None face = false
names_face (Some id) face = id == face

-- what a row names for a face, by the columns of ids and of tiles: where its id is the face, its tile's number, as it stands
abbrev pub named_in_row : (id tile : RoleAt) → ℕ → Row → Option ℤ
named_in_row id tile face row = where_holds (names_face (natural_in (cell_at row id.place)) face) (signed_in (cell_at row tile.place))

-- what some rows name for a face: the first row of the face counts
abbrev pub named_in : (id tile : RoleAt) → ℕ → List Row → Option ℤ
named_in id tile face [] = None
named_in id tile face (row ∷ rows) = named_in_row id tile face row or named_in id tile face rows

-- what a plan names for a face
abbrev pub named_tile : Grid → ℕ → Option ℤ
named_tile plan face = named_in (id_column plan.head.columns) (tile_column plan.head.columns) face plan.rows

-- the same for so many faces, from face 1 on
abbrev pub tiles_named : Grid → ℕ → List (Option ℤ)
tiles_named plan faces = map (named_tile plan) (range_with_len 1 faces)
