use Rattle.std.proofs.Common.{◌≡◌, ◌∙◌, Some, sym}
use Rattle.vpf_select.specs.Words.{value_in}
use Rattle.vpf_feature_commands.proofs.classes.selecting.rows_by_scan.Goals as goal

pub returns-in-Some-clause-value : goal.returns-in-Some-clause-value
returns-in-Some-clause-value c column at =
    let said : value_in column.kind column.count c.args.word.now ≡ Some c.in-Some.value = sym (c.in_ok-value.ensures.value column at) ∙ c.in-Some.is in
    rw said (c.scanned.ensures.value column)
