use Rattle.std.proofs.Common.{◌≡◌, ◌∙◌, Some, sym, ap}
use Rattle.vpf_head.specs.Head.{Col}
use Rattle.vpf_head.specs.Inner.Views.{col}
use Rattle.vpf_table_commands.specs.Rows.{theme_file}
use Rattle.vpf_table_commands.proofs.RowsFiles.{of_column}
use Rattle.vpf_table_commands.proofs.selecting.rows_of_column.Goals as goal

pub returns-in-Some-clause-told : goal.returns-in-Some-clause-told
returns-in-Some-clause-told g c column k files e =
    let seen = rw c.header.ensures at c.at.ensures in
    let both : Some (col c.at.result.now) ≡ Some column = sym seen ∙ k in
    let same : col c.at.result.now ≡ column = cc in
    of_column _ files c.args.request.now c.args.table.now c.args.c column (Some c.in-Some.name) (sym c.in-Some.is ∙ c.in_ok-name.ensures ∙ ap (λ (x : Col). theme_file c.args.request.now x) same) (c.by_theme.ensures.told column k files e)
