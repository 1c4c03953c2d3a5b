use Rattle.std.proofs.Common.{◌≡◌, ◌∙◌, None, Some, ap}
use Rattle.vpf_cross.specs.CrossFinding.{topology_finding}
use Rattle.vpf_glue.specs.Tables.{glued_made}
use Rattle.vpf_feature_writing.specs.Making.{features_made, made_then}
use Rattle.vpf_featured.specs.Finding.{placed_finding}
use Rattle.vpf_replies.specs.Answer.{Answer}
use Rattle.vpf_library_commands.specs.Glue.{first_table, gluing_answer}
use Rattle.vpf_library_commands.specs.Made.{files_answer}
use Rattle.vpf_base.proofs.Results.{if_ok_more}
use Rattle.vpf_library_commands.proofs.GlueAnswers.{none_answers, tileref_first}
use Rattle.vpf_library_commands.proofs.gluing.checked.Goals as goal

pub returns-in-Ok : goal.returns-in-Ok
returns-in-Ok c read are listed coverage_is schema_is =
    let request = c.args.request.now in
    let coverage = read.coverage.coverage in
    let first = placed_finding read.coverage.files (topology_finding coverage) in
    let none : first ≡ None = rw (coverage_is, ← listed) at c.in-Ok.ensures.first in
    let table : first_table read.coverage.files ≡ Some are.tileref =
    ap first_table listed
    ∙ tileref_first c.spelled_is_opened.ensures c.opened_is_read.ensures request.lib request.cov coverage c.args.files.now are in
    let made = made_then (glued_made request.cov coverage are.tileref) (features_made request.cov c.args.featured.now.schema) in
    if_ok_more (λ (reply : Answer). reply ≡ files_answer request.out made)
    (λ (reply : Answer). reply ≡ gluing_answer request read first) c.glued.result
    (λ reply is. none_answers request read are.tileref first reply none table (rw schema_is at is))
    (c.glued.ensures coverage are (c.in-Ok.ensures.checked ∙ coverage_is))
