use Rattle.vpf_library_commands.proofs.Deciding.{coverage_laws, read_laws}
use Rattle.vpf_library_commands.proofs.TraceAnswers.{has_answer, one_answer, trace_decides, trace_lists}
use Rattle.vpf_library_commands.proofs.laws.trace_lists_cycles.Goals as goal

pub returns-clause-some : goal.returns-clause-some
returns-clause-some c =
    let laws = read_laws c.coverages_are_held.ensures.held c.coverages_are_held.ensures.read
    (coverage_laws c.files_are_libraries.ensures.library c.files_are_libraries.ensures.whole c.numbers_decide.ensures.coverage c.agreement_decides.ensures c.like_tiles_are_whole.ensures)
    c.features_are_held.ensures.held c.features_are_held.ensures.read c.features_decide.ensures in
    has_answer c.one_trace.ensures.some laws

pub returns-clause-one : goal.returns-clause-one
returns-clause-one c = one_answer c.one_trace.ensures.one

pub returns-clause-decides : goal.returns-clause-decides
returns-clause-decides c =
    let laws = read_laws c.coverages_are_held.ensures.held c.coverages_are_held.ensures.read
    (coverage_laws c.files_are_libraries.ensures.library c.files_are_libraries.ensures.whole c.numbers_decide.ensures.coverage c.agreement_decides.ensures c.like_tiles_are_whole.ensures)
    c.features_are_held.ensures.held c.features_are_held.ensures.read c.features_decide.ensures in
    trace_decides laws

pub returns-clause-lists : goal.returns-clause-lists
returns-clause-lists c =
    let laws = read_laws c.coverages_are_held.ensures.held c.coverages_are_held.ensures.read
    (coverage_laws c.files_are_libraries.ensures.library c.files_are_libraries.ensures.whole c.numbers_decide.ensures.coverage c.agreement_decides.ensures c.like_tiles_are_whole.ensures)
    c.features_are_held.ensures.held c.features_are_held.ensures.read c.features_decide.ensures in
    trace_lists laws
