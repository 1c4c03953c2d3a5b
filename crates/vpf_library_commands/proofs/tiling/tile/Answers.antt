use Rattle.vpf_library_commands.specs.Tile.{read_parts}
use Rattle.vpf_library_commands.proofs.TileAnswers.{read_answers, tile_stopped}
use Rattle.vpf_library_commands.proofs.tiling.tile.Goals as goal

pub returns-in_ok-read-in-Ok-clause-told : goal.returns-in_ok-read-in-Ok-clause-told
returns-in_ok-read-in-Ok-clause-told g c files e =
    let read = read_parts files c.args.request.now.lib c.args.request.now.cov 0 in
    let came = rw (c.as_str-lib.ensures, c.as_str-cov.ensures) at (c.in-Ok.ensures.told files e) in
    read_answers c.args.request.now read came.value c.load_parts.new.loaded _ came.comes (c.in_ok-read-in-Ok.ensures came.value came.is)

pub returns-in-Err-clause-told : goal.returns-in-Err-clause-told
returns-in-Err-clause-told g c files e =
    let read = read_parts files c.args.request.now.lib c.args.request.now.cov 0 in
    tile_stopped c.args.request.now read c.in-Err.stop c.load_parts.new.loaded c.stopped.result (rw (c.as_str-lib.ensures, c.as_str-cov.ensures) at (c.in-Err.ensures.told files e)) c.stopped.ensures.told
