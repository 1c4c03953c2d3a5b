use Rattle.vpf_drill.proofs.TiledLemmas.{Known, grid_is_tiled, grids_are_sources}
use Rattle.vpf_drill.proofs.laws.grid_is_tiled.Goals as goal

pub returns : goal.returns
returns c =
    let known : Known = record {
      opened = c.opened_is_read.ensures;
      stops = c.stops_decide.ensures;
      reads = c.coverages_are_held.ensures.held;
      counts = c.check_decides_agreement.ensures.counts;
      again = c.check_decides_agreement.ensures.read;
      says = c.tables_say_grid.ensures;
      empty = c.grid_is_held.ensures.empty;
      bytes = c.grid_is_held.ensures.bytes;
      asked = c.grid_is_read_to_cut.ensures.asked;
      read = c.grid_is_read_to_cut.ensures.read;
      tables = c.grid_is_read_to_cut.ensures.tables;
      unfound = c.grid_is_unfound.ensures.coverage;
      parts_unfound = c.grid_is_unfound.ensures.parts;
      serves = c.grid_serves.ensures.serves;
      limits = c.grid_is_small.ensures.limits;
      few = c.grid_is_small.ensures.bytes;
      names = c.names_differ.ensures.within;
      requests = c.requests_have_names.ensures;
      makes = c.tiles_are_made.ensures;
      lacked = c.none_is_lacked.ensures;
      tilings = c.tilings_agree.ensures.held;
      only = c.sources_are_cut.ensures.only;
    } in
    record { tiled = grid_is_tiled known; source = grids_are_sources known }
