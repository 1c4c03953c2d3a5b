use Rattle.std.proofs.Common.{Option, Some}
use Rattle.std.proofs.lemmas.Result.{IfOk-weaker}
use Rattle.vpf_table.specs.Grid.{Grid}
use Rattle.vpf_library_files.specs.Loading.Holding.{AreFilesOf, AreFilesOfOption}
use Rattle.vpf_library_files.proofs.loading.loading.tables.optional_table.Goals as goal

pub returns-in-Some-clause-are : goal.returns-in-Some-clause-are
returns-in-Some-clause-are g c =
    let name = c.args.name.now in
    IfOk-weaker c.loaded_table.result (λ files. (grid : Grid) × AreFilesOf name grid files)
    (λ files. (grid : Option Grid) × AreFilesOfOption name grid files) (λ files h. (Some h.0, h.1)) c.loaded_table.ensures.are
