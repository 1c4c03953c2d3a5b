use Rattle.std.proofs.Common.{◌≡◌, Some, sym}
use Rattle.vpf_head.specs.Head.{place_of}
use Rattle.vpf_feature_commands.proofs.classes.KeyLemmas.{column_at}
use Rattle.vpf_feature_commands.proofs.classes.asking.of_table.Goals as goal

pub returns-in-Some : goal.returns-in-Some
returns-in-Some c =
    let placed : place_of c.args.column.now c.args.view.now.table.head.columns ≡ Some c.in-Some.c = rw c.header-header.ensures at (sym c.in-Some.ensures) in
    let at = column_at c.args.column.now c.args.view.now.table.head.columns c.in-Some.c placed in
    rw (placed, at.1) (c.of_column.ensures c.args.column.now at.0 at.1)
