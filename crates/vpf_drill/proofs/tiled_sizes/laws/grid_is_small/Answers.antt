use Rattle.vpf_drill.proofs.tiled_sizes.GridSizes.{grid_is_loaded, grid_passes_no_limit}
use Rattle.vpf_drill.proofs.tiled_sizes.laws.grid_is_small.Goals as goal

pub returns-clause-limits : goal.returns-clause-limits
returns-clause-limits c = grid_passes_no_limit

pub returns-clause-bytes : goal.returns-clause-bytes
returns-clause-bytes c = grid_is_loaded
