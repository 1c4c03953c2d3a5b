use Rattle.std.proofs.Common.{◌≡◌, drop, map, option_map}
use Rattle.vpf_prims.specs.Inner.Views.{tables_in_view}
use Rattle.vpf_numbers.specs.Around.{first_having, grid_named}
use Rattle.vpf_numbers.proofs.around.first_header.Given as goal

abbrev pub invariant-loop-tile : goal.invariant-loop-tile
invariant-loop-tile l =
    first_having (grid_named l.name) (map (option_map tables_in_view) (drop l.tile-index l.tiles)) ≡ first_having (grid_named l.name) (map (option_map tables_in_view) l.tiles)
