use Rattle.std.proofs.Common.{◌≡◌, true, ap, sym, ◌∙◌, Some}
use Rattle.std.specs.Prelude.{codes}
use Rattle.vpf_library_files.specs.Loading.Loading.{within}
use Rattle.vpf_coverage.specs.Inner.Opening.Opens.{is_first_file}
use Rattle.vpf_coverage.proofs.opening.FolderLemmas.{some_end}
use Rattle.vpf_coverage.proofs.opening.folders.open_end.Goals as goal

pub returns-in_ok-next_table-clause-table : goal.returns-in_ok-next_table-clause-table
returns-in_ok-next_table-clause-table c end rest opens =
    let folder = c.args.folder.now in
    let files = c.args.files.now in
    let there : is_first_file (within folder (codes "end")) files ≡ true = sym (c.in_ok-is_first.ensures) ∙ c.if-branch.true in
    let s = some_end folder end rest files there opens in
    ap Some (c.in_ok-next_table.ensures.table s.0 rest s.2) ∙ sym s.1

pub returns-in_ok-next_table-clause-rest : goal.returns-in_ok-next_table-clause-rest
returns-in_ok-next_table-clause-rest c end rest opens =
    let folder = c.args.folder.now in
    let files = c.args.files.now in
    let there : is_first_file (within folder (codes "end")) files ≡ true = sym (c.in_ok-is_first.ensures) ∙ c.if-branch.true in
    let s = some_end folder end rest files there opens in
    c.in_ok-next_table.ensures.rest s.0 rest s.2
