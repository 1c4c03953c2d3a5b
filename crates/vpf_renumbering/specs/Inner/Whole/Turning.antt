-- The turns of a map about its nodes.
use Rattle.vpf_darts.specs.Maps.{DartMap, turn}

-- the map whose cycles go round nodes: each dart goes on to the next one that begins where it does
abbrev pub turning_map : DartMap → DartMap
turning_map m = record { has = m.has; next = turn m; flip = m.flip; live = m.live }
