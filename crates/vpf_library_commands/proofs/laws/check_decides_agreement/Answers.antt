use Rattle.vpf_library_commands.proofs.Deciding.{agreeing_is_read, check_counts, check_decides, coverage_decides, coverage_laws, read_laws}
use Rattle.vpf_library_commands.proofs.laws.check_decides_agreement.Goals as goal

pub returns-clause-decides : goal.returns-clause-decides
returns-clause-decides c =
    let laws = read_laws c.coverages_are_held.ensures.held c.coverages_are_held.ensures.read
    (coverage_laws c.files_are_libraries.ensures.library c.files_are_libraries.ensures.whole c.numbers_decide.ensures.coverage c.agreement_decides.ensures c.like_tiles_are_whole.ensures)
    c.features_are_held.ensures.held c.features_are_held.ensures.read c.features_decide.ensures in
    check_decides laws

pub returns-clause-counts : goal.returns-clause-counts
returns-clause-counts c =
    let laws = read_laws c.coverages_are_held.ensures.held c.coverages_are_held.ensures.read
    (coverage_laws c.files_are_libraries.ensures.library c.files_are_libraries.ensures.whole c.numbers_decide.ensures.coverage c.agreement_decides.ensures c.like_tiles_are_whole.ensures)
    c.features_are_held.ensures.held c.features_are_held.ensures.read c.features_decide.ensures in
    check_counts laws

pub returns-clause-coverage : goal.returns-clause-coverage
returns-clause-coverage c =
    let laws = coverage_laws c.files_are_libraries.ensures.library c.files_are_libraries.ensures.whole c.numbers_decide.ensures.coverage c.agreement_decides.ensures c.like_tiles_are_whole.ensures in
    coverage_decides c.coverages_are_held.ensures.read laws

pub returns-clause-read : goal.returns-clause-read
returns-clause-read c = agreeing_is_read c.coverages_are_held.ensures.held c.features_are_held.ensures.held
