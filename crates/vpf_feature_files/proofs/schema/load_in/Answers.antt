use Rattle.std.proofs.Common.{◌≡◌, None}
use Rattle.std.proofs.lemmas.Result.{err_from_is_err_and}
use Rattle.vpf_feature_files.specs.SchemaRows.Joins.{schema_finding}
use Rattle.vpf_feature_files.proofs.SchemaLemmas.{schema_found, schema_stops, tables_stop_it}
use Rattle.vpf_feature_files.proofs.schema.load_in.Goals as goal

pub returns-in_err-table-clause-reads : goal.returns-in_err-table-clause-reads
returns-in_err-table-clause-reads g c =
    let p = err_from_is_err_and c.from_residual.result c.from_residual.ensures.1 in
    rw (p.1, p.2) (λ held e. schema_stops held c.args.folder.now c.args.name.now c.args.bytes.now c.args.loaded.now c.in_err-table.field-0.0
    (c.in_err-table.ensures.refused c.args.loaded.now))

pub load_named-requires-clause-right : goal.load_named-requires-clause-right
load_named-requires-clause-right g c =
    let none : schema_finding c.in_ok-table.table.grid ≡ None = (c.in_ok-look_at.ensures.looks c.args.loaded.now).is.columns in
    rw c.without_index.ensures none

pub returns-in_err-tables-clause-reads : goal.returns-in_err-tables-clause-reads
returns-in_err-tables-clause-reads g c =
    let p = err_from_is_err_and c.from_residual-in_err-tables.result c.from_residual-in_err-tables.ensures.1 in
    rw (p.1, p.2) (tables_stop_it (g.T.Tree.files c.args.tree.now) c.args.folder.now c.args.name.now c.args.bytes.now c.in_ok-table.table.grid c.without_index.result c.args.loaded.now
    c.load_named-2.new.loaded c.in_ok-look_at.field-0 c.in_err-tables.field-0.0 c.in_ok-table.ensures.read c.without_index.ensures (c.in_ok-look_at.ensures.looks c.args.loaded.now)
    c.in_err-tables.ensures.reads)

pub returns-clause-reads : goal.returns-clause-reads
returns-clause-reads g c =
    schema_found (g.T.Tree.files c.args.tree.now) c.args.folder.now c.args.name.now c.args.bytes.now c.in_ok-table.table.grid c.without_index.result c.in_ok-tables.tables.items c.args.loaded.now
    c.load_named-2.new.loaded c.in_ok-look_at.field-0 c.in_ok-table.ensures.read c.without_index.ensures (c.in_ok-look_at.ensures.looks c.args.loaded.now) c.in_ok-tables.ensures.reads
