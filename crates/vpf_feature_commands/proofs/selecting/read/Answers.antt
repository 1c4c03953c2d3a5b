use Rattle.std.proofs.Common.{◌≡◌, ◌∙◌, ap}
use Rattle.vpf_prims.specs.Coverages.{CoverageTables}
use Rattle.vpf_numbers.specs.TableLines.{coverage_numbers}
use Rattle.vpf_library_files.specs.Loading.Holding.{AreCoverageFiles}
use Rattle.vpf_library_files.specs.Loading.Loading.{within}
use Rattle.vpf_features.specs.Finding.{tables_finding}
use Rattle.vpf_replies.specs.Answer.{Answer}
use Rattle.vpf_feature_commands.specs.Select.{coverage_answer, schema_answer}
use Rattle.vpf_feature_commands.proofs.SelectAnswers.{none_answers}
use Rattle.vpf_base.proofs.Results.{if_ok_more}
use Rattle.vpf_feature_commands.proofs.selecting.read.Goals as goal

pub returns-in-Ok : goal.returns-in-Ok
returns-in-Ok c read are =
    let request = c.args.request.now in
    let folder = within request.lib request.cov in
    let of : AreCoverageFiles c.as_str.result.now c.as_str-2.result.now read.coverage.coverage c.args.files.now.coverage =
    rw (c.as_str.ensures, c.as_str-2.ensures) are.coverage in
    let same = ap (λ (x : CoverageTables). schema_answer folder request x read.schema (tables_finding folder read.schema.tables)) (c.in-Ok.ensures.opened read.coverage.coverage of) in
    if_ok_more (λ (reply : Answer). reply ≡ schema_answer folder request c.in-Ok.coverage read.schema (tables_finding folder read.schema.tables))
    (λ (reply : Answer). reply ≡ coverage_answer request read (coverage_numbers read.coverage.coverage)) c.opened.result
    (λ reply is. none_answers request read (coverage_numbers read.coverage.coverage) reply (c.in-Ok.ensures.first read.coverage.coverage of) (is ∙ same))
    (c.opened.ensures read.schema are.features)
