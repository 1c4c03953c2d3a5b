use Rattle.std.proofs.Common.{ap, ◌∙◌}
use Rattle.vpf_prims.specs.Tables.{files_of_grid}
use Rattle.vpf_library_files.specs.Tileref.Stops.{path_texts, tileref_stop}
use Rattle.vpf_coverage.proofs.opening.CountLemmas.{known_paths}
use Rattle.vpf_coverage.proofs.opening.opening.open_paths.Goals as goal

pub known_paths-requires-clause-right : goal.known_paths-requires-clause-right
known_paths-requires-clause-right c =
    let h = c.requires.2 in
    ap tileref_stop (c.in_ok-table.ensures.table c.requires.0 c.requires.1 h.opens) ∙ h.right

pub known_paths-requires-clause-known : goal.known_paths-requires-clause-known
known_paths-requires-clause-known c =
    let h = c.requires.2 in
    known_paths c.opened_is_read.ensures c.requires.0 c.in_ok-table.table c.requires.1 c.args.files.now c.paths-known.result h.opens
    (c.in_ok-table.ensures.table c.requires.0 c.requires.1 h.opens) c.paths-known.ensures

pub returns-clause-paths : goal.returns-clause-paths
returns-clause-paths c tileref rest h = c.in_ok-paths.ensures ∙ ap path_texts (c.in_ok-table.ensures.table tileref rest h.opens)

pub returns-clause-count : goal.returns-clause-count
returns-clause-count c tileref rest h = c.files_of.ensures.value ∙ ap files_of_grid (c.in_ok-table.ensures.table tileref rest h.opens)

pub returns-clause-rest : goal.returns-clause-rest
returns-clause-rest c tileref rest h = c.in_ok-table.ensures.rest tileref rest h.opens
