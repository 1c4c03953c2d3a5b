use Rattle.std.proofs.Common.{◌∙◌, sym}
use Rattle.vpf_table_commands.proofs.Selections.{listed_there}
use Rattle.vpf_table_commands.proofs.selecting.listing.listed.Goals as goal

pub returns : goal.returns
returns c column e =
    let said = rw (c.as_bytes.ensures.value, c.as_str.ensures) at (sym c.in-Some.is ∙ c.in_ok-value.ensures.value column e) in
    let answer = rw (c.cell.ensures, c.as_str-2.ensures) at (c.selected.ensures column _ e c.select_rows-rows.ensures.value) in
    rw (listed_there c.args.request.now c.args.table.now c.args.c column c.args.name.now c.args.theme.now c.in-Some.value said) answer
