use Rattle.std.proofs.Common.{◌≡◌, ◌∙◌, false, true, ap, refl, sym}
use Rattle.vpf_prims.specs.Coverages.{CoverageTables}
use Rattle.vpf_cross.specs.CrossFinding.{topology_finding}
use Rattle.vpf_library_files.specs.Loading.Holding.{AreTiledFiles}
use Rattle.vpf_library_files.specs.Loading.Loading.{within}
use Rattle.vpf_featured.specs.Finding.{featured_finding, placed_finding}
use Rattle.vpf_featured.specs.Inner.Held.{AreFeaturedFiles}
use Rattle.vpf_replies.specs.Answer.{Answer}
use Rattle.vpf_library_commands.specs.Glue.{gluing_answer}
use Rattle.vpf_library_commands.proofs.CheckAnswers.{found_featured}
use Rattle.vpf_base.proofs.Results.{if_ok_more}
use Rattle.vpf_library_commands.proofs.GlueAnswers.{tiled_files}
use Rattle.vpf_library_commands.proofs.gluing.read.Goals as goal

pub returns-in-Ok : goal.returns-in-Ok
returns-in-Ok c read are tiled =
    let request = c.args.request.now in
    let folder = within request.lib request.cov in
    let coverage = read.coverage.coverage in
    let there : AreFeaturedFiles c.as_str-lib.result.now c.as_str-cov.result.now c.args.files.now read = rw (c.as_str-lib.ensures, c.as_str-cov.ensures) are in
    let none = rw (c.as_str-lib.ensures, c.as_str-cov.ensures) at (c.in-Ok.ensures.first read there) in
    let found = found_featured folder read.coverage.files coverage read none refl refl in
    let files : AreTiledFiles request.lib request.cov coverage c.files.result.now =
    rw c.files.ensures (tiled_files request.lib request.cov coverage c.args.files.now.coverage are.coverage tiled) in
    if_ok_more (λ (reply : Answer). reply ≡ gluing_answer request read (placed_finding read.coverage.files (topology_finding coverage)))
    (λ (reply : Answer). reply ≡ gluing_answer request read (featured_finding folder read)) c.checked.result
    (λ reply is. is ∙ ap (gluing_answer request read) found)
    (c.checked.ensures read files (sym (c.files.ensures ∙ are.listed)) (c.in-Ok.ensures.coverage read there) (c.in-Ok.ensures.schema read there))

pub returns-in-Ok-2 : goal.returns-in-Ok-2
returns-in-Ok-2 c read are tiled =
    let there : AreFeaturedFiles c.as_str-lib.result.now c.as_str-cov.result.now c.args.files.now read = rw (c.as_str-lib.ensures, c.as_str-cov.ensures) are in
    let same : c.in-Ok.featured.coverage.is_tiled ≡ true = ap (λ (x : CoverageTables). x.is_tiled) (c.in-Ok.ensures.coverage read there) ∙ tiled in
    absurd (let no : false ≡ true = sym c.if-is_tiled.false ∙ (c.is_tiled.ensures ∙ same) in cc)
