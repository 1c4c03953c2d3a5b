use Rattle.std.proofs.Common.{◌≡◌, ◌∙◌, List, None, Some, subst}
use Rattle.vpf_source.specs.declared.file.File.{File}
use Rattle.vpf_prims.specs.Coverages.{CoverageTables, tile_at}
use Rattle.vpf_cross.specs.CrossFinding.{topology_finding}
use Rattle.vpf_findings.specs.Findings.{disagreement_of}
use Rattle.vpf_findings.specs.Printing.{disagree_text}
use Rattle.vpf_replies.specs.Answer.{Answer, refused}
use Rattle.vpf_featured.specs.Finding.{placed_finding}
use Rattle.vpf_library_commands.specs.Tile.{tables_answer, tiling_answer}
use Rattle.vpf_library_commands.proofs.TileAnswers.{finding_answers, none_answers}
use Rattle.vpf_base.proofs.Results.{if_ok_more}
use Rattle.vpf_library_commands.proofs.tiling.checked.Goals as goal

pub returns-in-Ok : goal.returns-in-Ok
returns-in-Ok c parts are same schema =
    let request = c.args.request.now in
    let first = placed_finding parts.coverage.files (topology_finding parts.coverage.coverage) in
    let none : first ≡ None =
    subst (λ (files : List File). placed_finding files (topology_finding parts.coverage.coverage) ≡ None) (c.files.ensures ∙ are.featured.featured.listed)
    (subst (λ (x : CoverageTables). placed_finding c.files.result.now (topology_finding x) ≡ None) same c.in-Ok.ensures.first) in
    if_ok_more (λ (reply : Answer). reply ≡ tables_answer request c.args.featured.now.schema (tile_at parts.coverage.coverage 0) parts.plan.grid parts.tileref.grid)
    (λ (reply : Answer). reply ≡ tiling_answer request parts first) c.tiled.result
    (λ reply is. none_answers request parts c.args.featured.now.schema first reply none schema is) (c.tiled.ensures parts are (c.in-Ok.ensures.checked ∙ same))

pub returns-in-Err-Finding : goal.returns-in-Err-Finding
returns-in-Err-Finding c parts are same schema =
    let request = c.args.request.now in
    let first = placed_finding parts.coverage.files (topology_finding parts.coverage.coverage) in
    let d = disagreement_of c.in-Err-Finding.finding in
    let told = rw c.in-Err-Finding.field-0-is at c.in-Err-Finding.ensures.first in
    let found : first ≡ Some (c.in-Err-Finding.name, d) =
    subst (λ (files : List File). placed_finding files (topology_finding parts.coverage.coverage) ≡ Some (c.in-Err-Finding.name, d)) (c.files.ensures ∙ are.featured.featured.listed)
    (subst (λ (x : CoverageTables). placed_finding c.files.result.now (topology_finding x) ≡ Some (c.in-Err-Finding.name, d)) same told) in
    if_ok_more (λ (reply : Answer). reply ≡ refused (disagree_text c.as_str.result.now d)) (λ (reply : Answer). reply ≡ tiling_answer request parts first)
    c.disagreement.result (λ reply is. finding_answers request parts first c.in-Err-Finding.name c.as_str.result.now d reply found c.as_str.ensures is) c.disagreement.ensures
