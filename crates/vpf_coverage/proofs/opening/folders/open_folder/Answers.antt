use Rattle.std.proofs.Common.{◌≡◌, true, ap, sym, ◌∙◌, Some}
use Rattle.std.specs.Prelude.{codes}
use Rattle.vpf_library_files.specs.Loading.Loading.{within}
use Rattle.vpf_coverage.specs.Inner.Opening.Opens.{is_first_file}
use Rattle.vpf_coverage.proofs.opening.FolderLemmas.{some_folder}
use Rattle.vpf_coverage.proofs.opening.folders.open_folder.Goals as goal

pub returns-in_ok-open_tables-clause-tables : goal.returns-in_ok-open_tables-clause-tables
returns-in_ok-open_tables-clause-tables c tables rest opens =
    let folder = c.args.folder.now in
    let files = c.args.files.now in
    let there : is_first_file (within folder (codes "edg")) files ≡ true = sym (c.in_ok-is_first.ensures) ∙ c.if-branch.true in
    let s = some_folder folder tables rest files there opens in
    ap Some (c.in_ok-open_tables.ensures.tables s.0 rest s.2) ∙ sym s.1

pub returns-in_ok-open_tables-clause-rest : goal.returns-in_ok-open_tables-clause-rest
returns-in_ok-open_tables-clause-rest c tables rest opens =
    let folder = c.args.folder.now in
    let files = c.args.files.now in
    let there : is_first_file (within folder (codes "edg")) files ≡ true = sym (c.in_ok-is_first.ensures) ∙ c.if-branch.true in
    let s = some_folder folder tables rest files there opens in
    c.in_ok-open_tables.ensures.rest s.0 rest s.2
