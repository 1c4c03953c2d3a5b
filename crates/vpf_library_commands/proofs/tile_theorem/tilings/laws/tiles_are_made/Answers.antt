use Rattle.std.proofs.Common.{List, ◌∙◌, ap, Option, Result}
use Rattle.vpf_source.specs.declared.file.File.{File}
use Rattle.vpf_prims.specs.Tables.{TileTables}
use Rattle.vpf_library_commands.specs.TileError.{TileError}
use Rattle.vpf_library_commands.specs.Tile.{parts_answer, tables_answer, tiled_answer, tiling_answer}
use Rattle.vpf_library_commands.proofs.tile_theorem.tilings.TilingLemmas.{both_come_to}
use Rattle.vpf_library_commands.proofs.tile_theorem.tilings.laws.tiles_are_made.Goals as goal

pub returns : goal.returns
returns c files request parts T h =
    ap (parts_answer request) h.read
    ∙ ap (tiling_answer request parts) h.agrees
    ∙ ap (λ (t : Option TileTables). tables_answer request parts.schema t parts.plan.grid parts.tileref.grid) h.tables
    ∙ ap (λ (r : Result (List File) TileError). tiled_answer request parts.schema r) (both_come_to files request parts T h)
