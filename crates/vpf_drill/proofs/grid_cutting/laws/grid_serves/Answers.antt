use Rattle.vpf_drill.proofs.grid_cutting.PlanLemmas.{plan_names}
use Rattle.vpf_drill.proofs.grid_cutting.ServingLemmas.{rows_are_tiles, serves, tileable}
use Rattle.vpf_drill.proofs.grid_cutting.laws.grid_serves.Goals as goal

pub returns-clause-names : goal.returns-clause-names
returns-clause-names c = plan_names c.tables_say_grid.ensures

pub returns-clause-rows : goal.returns-clause-rows
returns-clause-rows c = rows_are_tiles

pub returns-clause-serves : goal.returns-clause-serves
returns-clause-serves c =
    serves c.refusals_decide.ensures c.tables_say_grid.ensures c.tiles_of_the_grid.ensures.faces c.nexts_are_a_map.ensures.fit c.grid_is_well_formed.ensures.well_formed

pub returns-clause-tileable : goal.returns-clause-tileable
returns-clause-tileable c =
    tileable c.tables_say_grid.ensures c.tiles_of_the_grid.ensures.faces c.nexts_are_a_map.ensures.fit c.grid_is_well_formed.ensures.well_formed
