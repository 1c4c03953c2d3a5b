use Rattle.std.proofs.Common.{sym}
use Rattle.std.proofs.lemmas.Result.{err_from_is_err_and}
use Rattle.vpf_primitive_tables.specs.TileTables.Grids.{tiles_made}
use Rattle.vpf_glue.specs.Inner.Forms.{tables_by}
use Rattle.vpf_glue.proofs.GlueLemmas.{all_added, none_glued, others_fail, tiles_fail}
use Rattle.vpf_glue.proofs.gluing.glued_files.Goals as goal

pub returns-in_err-add_table : goal.returns-in_err-add_table
returns-in_err-add_table c =
    let p = err_from_is_err_and c.from_residual.result c.from_residual.ensures.1 in
    rw (p.1, p.2) (tiles_fail c.args.cov.now c.args.checked.now c.args.tileref.now c.in-Some.first.now c.in_err-add_table.field-0.0 (sym c.in-Some.ensures)
    (c.in_err-add_table.ensures (tiles_made c.args.tileref.now) c.write_tiles-tiles.ensures))

pub returns-in_err-add_coverage : goal.returns-in_err-add_coverage
returns-in_err-add_coverage c =
    let p = err_from_is_err_and c.from_residual-in_err-add_coverage.result c.from_residual-in_err-add_coverage.ensures.1 in
    rw (p.1, p.2) (others_fail c.args.cov.now c.args.checked.now c.args.tileref.now c.in-Some.first.now (tables_by c.in_ok-forms.forms c.args.checked.now)
    c.new-files.result.items c.add_table.new.files.items c.in_err-add_coverage.field-0.0 (sym c.in-Some.ensures) c.in_ok-forms.ensures.tables
    (c.in_ok-add_table.ensures (tiles_made c.args.tileref.now) c.write_tiles-tiles.ensures) c.in_err-add_coverage.ensures)

pub returns : goal.returns
returns c =
    all_added c.args.cov.now c.args.checked.now c.args.tileref.now c.in-Some.first.now (tables_by c.in_ok-forms.forms c.args.checked.now)
    c.new-files.result.items c.add_table.new.files.items c.add_coverage.new.files.items (sym c.in-Some.ensures) c.in_ok-forms.ensures.tables c.new-files.ensures.items
    (c.in_ok-add_table.ensures (tiles_made c.args.tileref.now) c.write_tiles-tiles.ensures) c.in_ok-add_coverage.ensures
