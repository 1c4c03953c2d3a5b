use Rattle.vpf_library_commands.proofs.Deciding.{coverage_laws, read_laws}
use Rattle.vpf_library_commands.proofs.GlueDeciding.{glue_decides, glue_laws}
use Rattle.vpf_library_commands.proofs.laws.glue_decides_agreement.Goals as goal

pub returns : goal.returns
returns c =
    let laws = read_laws c.coverages_are_held.ensures.held c.coverages_are_held.ensures.read
    (coverage_laws c.files_are_libraries.ensures.library c.files_are_libraries.ensures.whole c.numbers_decide.ensures.coverage c.agreement_decides.ensures c.like_tiles_are_whole.ensures)
    c.features_are_held.ensures.held c.features_are_held.ensures.read c.features_decide.ensures in
    glue_decides (glue_laws laws c.glued_tables_are_read.ensures c.spelled_is_opened.ensures c.opened_is_read.ensures)
