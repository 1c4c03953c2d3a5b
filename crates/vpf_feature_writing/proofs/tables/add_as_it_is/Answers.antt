use Rattle.std.proofs.Common.{[], ◌∷◌, ap, ◌∙◌, subst}
use Rattle.vpf_base.specs.declared.orders.Order.{Order}
use Rattle.vpf_head.specs.Head.{Head}
use Rattle.vpf_table.specs.Canonical.{in_order}
use Rattle.vpf_write.specs.Writing.{Writes}
use Rattle.vpf_library_files.specs.TableFiles.Adding.{table_within}
use Rattle.vpf_feature_writing.specs.Inner.AddLaws.{tables_add}
use Rattle.vpf_feature_writing.proofs.tables.add_as_it_is.Goals as goal

pub returns : goal.returns
returns c =
    let grid = c.args.table.now in
    let own = c.order.ensures ∙ ap (λ (head : Head). head.order) c.header.ensures in
    let written = subst (λ (order : Order). Writes (in_order order grid) c.write_in-written.result) own c.write_in-written.ensures in
    tables_add (table_within c.args.folder.now c.args.name.now grid ∷ []) c.args.files.now.items c.add_table.new.files.items c.add_table.result
    (c.add_table.ensures grid written)
