use Rattle.std.proofs.Common.{◌≡◌, codes, subst}
use Rattle.vpf_prims.specs.Columns.{column_of}
use Rattle.vpf_table.specs.Grid.{Grid}
use Rattle.vpf_primitive_tables.specs.Inner.TableForms.Places.{NamesRows}
use Rattle.vpf_primitive_tables.specs.Inner.TableForms.ColumnLaws.{reference_names}
use Rattle.vpf_glue.proofs.glued_tables.forms.GluedForms.new.Goals as goal

pub new-requires-4-clause-reference : goal.new-requires-4-clause-reference
new-requires-4-clause-reference c =
    let cnd = c.args.first.now.tables.cnd in
    let same : cnd ≡ c.table_of-4.result.now = cc (c.table_of-4.ensures) in
    subst (λ (g : Grid). NamesRows g.head.columns (codes "first_edge")) same
    (reference_names (codes "first_edge") (column_of cnd.head.columns (codes "first_edge")) c.requires.columns.cnd.1.0)
