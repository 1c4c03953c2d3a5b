use Rattle.std.proofs.Common.{◌≡◌, Option, Some, refl, subst}
use Rattle.std.specs.Prelude.{IfOk}
use Rattle.vpf_library_files.specs.Loading.Loading.{within}
use Rattle.vpf_features.specs.Finding.{Named}
use Rattle.vpf_findings.specs.Findings.{disagreement_of}
use Rattle.vpf_findings.specs.Printing.{disagree_text}
use Rattle.vpf_replies.specs.Answer.{Answer, refused}
use Rattle.vpf_library_commands.specs.Tile.{featured_in, parts_finding, tiling_answer}
use Rattle.vpf_library_commands.proofs.CheckAnswers.{found_featured}
use Rattle.vpf_library_commands.proofs.TileAnswers.{finding_answers, first_of_both}
use Rattle.vpf_base.proofs.Results.{if_ok_more}
use Rattle.vpf_library_commands.proofs.tiling.read.Goals as goal

pub returns-in-Ok : goal.returns-in-Ok
returns-in-Ok c parts are =
    let request = c.args.request.now in
    let none = c.in-Ok.ensures.first (featured_in parts) are.featured in
    let first = found_featured (within request.lib request.cov) parts.coverage.files parts.coverage.coverage (featured_in parts) none refl refl in
    subst (λ (first : Option Named). IfOk c.checked.result (λ (reply : Answer). reply ≡ tiling_answer request parts first)) first
    (c.checked.ensures parts are (c.in-Ok.ensures.coverage (featured_in parts) are.featured) (c.in-Ok.ensures.schema (featured_in parts) are.featured))

pub returns-in-Err-Finding : goal.returns-in-Err-Finding
returns-in-Err-Finding c parts are =
    let request = c.args.request.now in
    let d = disagreement_of c.in-Err-Finding.finding in
    let told = rw c.in-Err-Finding.field-0-is at (c.in-Err-Finding.ensures.first (featured_in parts) are.featured) in
    let found : parts_finding request parts ≡ Some (c.in-Err-Finding.name, d) =
    first_of_both _ _ c.in-Err-Finding.name d told in
    if_ok_more (λ (reply : Answer). reply ≡ refused (disagree_text c.as_str.result.now d))
    (λ (reply : Answer). reply ≡ tiling_answer request parts (parts_finding request parts))
    c.disagreement.result (λ reply is. finding_answers request parts (parts_finding request parts) c.in-Err-Finding.name c.as_str.result.now d reply found c.as_str.ensures is)
    c.disagreement.ensures
