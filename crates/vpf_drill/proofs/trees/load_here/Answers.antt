use Rattle.vpf_library_files.specs.Loading.Loading.{read_coverage}
use Rattle.vpf_drill.proofs.TreeLemmas.{with_first}
use Rattle.vpf_drill.proofs.trees.load_here.Goals as goal

pub returns-in-Ok-clause-held : goal.returns-in-Ok-clause-held
returns-in-Ok-clause-held c held coverage tells read =
    let all = read_coverage held c.args.lib.now c.args.cov.now 0 in
    c.in-Ok.ensures.held held tells coverage all.1 (with_first all _ read)
