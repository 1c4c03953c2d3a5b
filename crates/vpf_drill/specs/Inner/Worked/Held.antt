-- A tree that holds the files of the worked coverage with its features, its table of tiles and its plan, and nothing else.
use Rattle.std.specs.Prelude.{◌≡◌, ℕ, List, [], ◌∷◌, Some, None, codes, map, unwrap_or}
use Rattle.vpf_base.specs.declared.orders.Order.TheVariants.{Little}
use Rattle.vpf_source.specs.Files.{Files, no_files, HoldsBytes}
use Rattle.vpf_source.specs.Making.{with_all}
use Rattle.vpf_source.specs.declared.file.File.{File}
use Rattle.vpf_table.specs.Grid.{Grid}
use Rattle.vpf_theme.specs.declared.layout.Form.TheVariants as forms
use Rattle.vpf_theme.specs.Findings.{cells_of}
use Rattle.vpf_theme_build.specs.Building.{layout_for}
use Rattle.vpf_theme_build.specs.Grouping.{entries_for}
use Rattle.vpf_theme_build.specs.Text.{index_text}
use Rattle.vpf_library_files.specs.Loading.Loading.{loaded_file, within}
use Rattle.vpf_vectors.specs.Library.{named_file}
use Rattle.vpf_drill.specs.Inner.Worked.Tables.{worked_classes, worked_edges, worked_faces, worked_lanes, worked_nodes, worked_plan, worked_rings, worked_roads, worked_tiles}

-- the tables under the names of their files
abbrev pub worked_named : List (List ℕ × Grid)
worked_named =
    (codes "land/tileref/tileref.aft", worked_tiles)
    ∷ (codes "land/roads/edg", worked_edges)
    ∷ (codes "land/roads/fac", worked_faces)
    ∷ (codes "land/roads/rng", worked_rings)
    ∷ (codes "land/roads/cnd", worked_nodes)
    ∷ (codes "land/roads/plan", worked_plan)
    ∷ (codes "land/roads/fcs", worked_classes)
    ∷ (codes "land/roads/road.lft", worked_roads)
    ∷ []

-- the bytes of the thematic index, as it is built
abbrev pub worked_index_bytes : List ℕ
worked_index_bytes =
    let cells = cells_of worked_roads 1 in index_text (layout_for Little forms.List worked_lanes 1 cells) (codes "road.lft") worked_lanes.name (entries_for cells)

-- all files
abbrev pub worked_files : List File
worked_files = loaded_file (codes "land/roads/lanes.ti") worked_index_bytes ∷ map named_file worked_named

-- the files of a tree that held none, once these are made in it
abbrev pub worked_held : Files
worked_held = unwrap_or (with_all worked_files (Some no_files)) no_files

-- the folder of the tiled library
abbrev pub worked_out : List ℕ
worked_out = codes "out"

-- once the files are made, the tree holds them
abbrev pub WorkedIsMade : Type 0
WorkedIsMade = with_all worked_files (Some no_files) ≡ Some worked_held

-- it has nothing in the folder of the tiled library
abbrev pub WorkedOutIsEmpty : Type 0
WorkedOutIsEmpty = (name : List ℕ) → worked_held (within worked_out name) ≡ None

-- what it holds are bytes
abbrev pub WorkedHoldsBytes : Type 0
WorkedHoldsBytes = HoldsBytes worked_held
