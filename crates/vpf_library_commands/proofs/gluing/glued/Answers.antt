use Rattle.std.proofs.Common.{◌≡◌, ◌∙◌, sym, subst}
use Rattle.vpf_library_files.specs.Tileref.Tileref.{IsTileref}
use Rattle.vpf_glue.specs.Tables.{glued_with_features}
use Rattle.vpf_replies.specs.Answer.{Answer}
use Rattle.vpf_library_commands.specs.Made.{files_answer}
use Rattle.vpf_base.proofs.Results.{if_ok_more}
use Rattle.vpf_library_commands.proofs.GlueAnswers.{answer_same, moved_tiled}
use Rattle.vpf_library_commands.proofs.gluing.glued.Goals as goal

pub glue-made-requires-clause-tileref : goal.glue-made-requires-clause-tileref
glue-made-requires-clause-tileref c =
    let request = c.args.request.now in
    let p = c.requires.files in
    let m =
    moved_tiled request.lib c.as_str-lib.result.now request.cov c.as_str-cov.result.now p.0 c.args.files.now p.1 c.as_str-lib.ensures
    c.as_str-cov.ensures in
    subst IsTileref (sym (c.in_ok-tileref.ensures p.0 m.0 ∙ m.1)) p.1.right

pub returns : goal.returns
returns c coverage are same =
    let request = c.args.request.now in
    let cov = c.as_str-cov.result.now in
    let m = moved_tiled request.lib c.as_str-lib.result.now request.cov cov coverage c.args.files.now are c.as_str-lib.ensures c.as_str-cov.ensures in
    let made = glued_with_features cov c.args.checked.now c.args.schema.now c.in_ok-tileref.tileref in
    let ought = glued_with_features request.cov coverage c.args.schema.now are.tileref in
    if_ok_more (λ (reply : Answer). reply ≡ files_answer c.as_str.result.now made) (λ (reply : Answer). reply ≡ files_answer request.out ought) c.made_in.result
    (λ reply is. answer_same c.as_str.result.now request.out cov request.cov c.args.checked.now coverage c.in_ok-tileref.tileref are.tileref
    c.args.schema.now reply c.as_str.ensures c.as_str-cov.ensures same (c.in_ok-tileref.ensures coverage m.0 ∙ m.1) is)
    (c.made_in.ensures made c.glue-made.ensures.exact)
