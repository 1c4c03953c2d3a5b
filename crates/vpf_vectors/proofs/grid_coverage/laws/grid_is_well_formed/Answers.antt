use Rattle.std.proofs.Common.{sym, subst}
use Rattle.vpf_darts.specs.Cycles.{IsListing}
use Rattle.vpf_darts.specs.Maps.{DartMap}
use Rattle.vpf_vectors.specs.Cells.Rows.{face_cycles}
use Rattle.vpf_vectors.proofs.grid_coverage.GridFacts.{GridFacts}
use Rattle.vpf_vectors.specs.Inner.GridCoverage.DartLaws.{small_edges}
use Rattle.vpf_vectors.proofs.grid_coverage.NextLemmas.{next-is, map-is}
use Rattle.vpf_vectors.proofs.grid_coverage.NumberLemmas.{numbered, tiles_make_library}
use Rattle.vpf_vectors.proofs.grid_coverage.CycleLemmas.{cycles, loops}
use Rattle.vpf_vectors.proofs.grid_coverage.laws.grid_is_well_formed.Goals as goal
use Rattle.vpf_vectors.proofs.grid_coverage.laws.grid_is_well_formed.Goals.{After-faces_are_listed}

facts : After-faces_are_listed → GridFacts
facts c = record {
  corner = c.numbers_name.ensures.nodes;
  in_range = c.darts_are_in_range.ensures;
  fit = c.nexts_are_a_map.ensures.fit;
  map = c.nexts_are_a_map.ensures.map;
  node = c.cycles_of_the_grid.ensures.node;
  face = c.cycles_of_the_grid.ensures.face;
  ring = c.least_darts.ensures.rings;
  first = c.least_darts.ensures.nodes;
}

pub returns-clause-well_formed : goal.returns-clause-well_formed
returns-clause-well_formed c n le most =
    record { numbered = numbered (facts c) n le; loops = loops (facts c) n le (small_edges n most); cycles = cycles (facts c) n le (small_edges n most) }

pub returns-clause-library : goal.returns-clause-library
returns-clause-library c = tiles_make_library

pub returns-clause-nexts : goal.returns-clause-nexts
returns-clause-nexts c n d le most h = next-is (facts c) n d le (small_edges n most) h

pub returns-clause-map : goal.returns-clause-map
returns-clause-map c n le most = map-is (facts c) n le (small_edges n most)

pub returns-clause-listing : goal.returns-clause-listing
returns-clause-listing c n le most = subst (λ (m : DartMap). IsListing m.next m.live (face_cycles n)) (sym (map-is (facts c) n le (small_edges n most)))
    (c.faces_are_listed.ensures n le)
