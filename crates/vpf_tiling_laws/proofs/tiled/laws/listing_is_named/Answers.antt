use Rattle.vpf_tiling_laws.proofs.tiled.Facts.{map_laws}
use Rattle.vpf_tiling_laws.proofs.tiled.LeftLemmas as lemmas
use Rattle.vpf_tiling_laws.proofs.tiled.laws.listing_is_named.Goals as goal

pub returns-clause-cycles : goal.returns-clause-cycles
returns-clause-cycles c =
    lemmas.cycles_are_named (map_laws c.first_kept_dart.ensures c.well_formed_has_map.ensures)
    c.renaming_keeps_cycles.ensures.map c.renaming_keeps_cycles.ensures.removal c.renaming_keeps_cycles.ensures.cycles

pub returns-clause-listing : goal.returns-clause-listing
returns-clause-listing c =
    lemmas.listing_is_named (map_laws c.first_kept_dart.ensures c.well_formed_has_map.ensures)
    c.removal_leaves_a_map.ensures.map c.renaming_keeps_cycles.ensures.map c.renaming_keeps_cycles.ensures.removal
