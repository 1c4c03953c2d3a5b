use Rattle.std.proofs.Common.{[], ◌∷◌, ◌∙◌}
use Rattle.vpf_value.specs.Values.{view, TextOf}
use Rattle.vpf_vectors.proofs.CellLemmas.{tile_is, tile_cells_fit}
use Rattle.vpf_vectors.proofs.tables.put_tile.Goals as goal

pub put_row-requires : goal.put_row-requires
put_row-requires c =
    tile_cells_fit c.args.writer.now.head c.args.tile (view c.number.result ∷ TextOf c.as_bytes.result.now ∷ []) c.requires.head c.requires.small
    (tile_is c.args.tile (view c.number.result) c.as_bytes.result.now c.number.ensures (c.as_bytes.ensures.value ∙ c.in_ok-name.ensures))
