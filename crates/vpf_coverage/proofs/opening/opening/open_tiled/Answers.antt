use Rattle.std.proofs.Common.{◌∙◌}
use Rattle.vpf_prims.specs.Tables.{files_of_grid}
use Rattle.vpf_library_files.specs.Tileref.Stops.{path_texts}
use Rattle.vpf_coverage.specs.Inner.Opening.Opened.{names_in}
use Rattle.vpf_coverage.proofs.opening.CoverageLemmas.{tiled_is, tiles_ahead}
use Rattle.vpf_coverage.proofs.opening.opening.open_tiled.Goals as goal

pub open_tiles-requires-clause-tiles : goal.open_tiles-requires-clause-tiles
open_tiles-requires-clause-tiles c =
    let h = c.requires.1 in
    let p = c.in_ok-paths in (
      h.tiles,
      tiles_ahead c.args.folder.now p.at (files_of_grid h.tileref) c.names.result.now (path_texts h.tileref) h.tiles c.open_paths.new.files h.behind
          (p.ensures.count h.tileref h.behind h.tileref_is) (c.names.ensures ∙ p.ensures.paths h.tileref h.behind h.tileref_is) (p.ensures.rest h.tileref h.behind h.tileref_is)
          h.tiles_are,
    )

pub returns-clause-opened : goal.returns-clause-opened
returns-clause-opened c coverage h =
    let p = c.in_ok-paths in
    let o = c.in_ok-firsts in
    let texts = p.ensures.paths h.tileref h.behind h.tileref_is in
    let ahead = tiles_ahead c.args.folder.now p.at (files_of_grid h.tileref) c.names.result.now (path_texts h.tileref) h.tiles c.open_paths.new.files h.behind
    (p.ensures.count h.tileref h.behind h.tileref_is) (c.names.ensures ∙ texts) (p.ensures.rest h.tileref h.behind h.tileref_is) h.tiles_are in
    tiled_is coverage (names_in p.paths) (path_texts h.tileref) o.firsts.items o.tiles.items h.tiles h.is texts (o.ensures.opened h.tiles ahead)
