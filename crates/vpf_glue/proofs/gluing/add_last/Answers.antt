use Rattle.std.proofs.Common.{List, [], ◌∷◌, codes}
use Rattle.std.specs.Option.{option_map}
use Rattle.std.proofs.lemmas.Result.{err_from_is_err_and}
use Rattle.vpf_primitive_tables.specs.Inner.TableForms.Models.{PairsLike}
use Rattle.vpf_library_files.specs.Inner.TableFiles.AddLaws.{adds_then, fails_first}
use Rattle.vpf_glue.specs.GluedTables.Grids.{glued_entity_grid, plan_grid}
use Rattle.vpf_glue.specs.Tables.{end_tables, plan_table}
use Rattle.vpf_glue.proofs.gluing.add_last.Goals as goal

pub returns-in_err-add_entities : goal.returns-in_err-add_entities
returns-in_err-add_entities c =
    let p = err_from_is_err_and c.from_residual.result c.from_residual.ensures.1 in
    rw (p.1, p.2) (fails_first (end_tables c.args.cov.now (option_map (λ (end : PairsLike). glued_entity_grid end.table c.args.faces.now) c.args.end.now))
    (plan_table c.args.cov.now (plan_grid c.args.faces.now) ∷ []) c.in_err-add_entities.field-0.0 c.in_err-add_entities.ensures)

pub returns : goal.returns
returns c =
    adds_then (end_tables c.args.cov.now (option_map (λ (end : PairsLike). glued_entity_grid end.table c.args.faces.now) c.args.end.now))
    (plan_table c.args.cov.now (plan_grid c.args.faces.now) ∷ []) c.args.files.now.items c.add_entities.new.files.items c.add_table.new.files.items c.add_table.result
    c.in_ok-add_entities.ensures (c.add_table.ensures (plan_grid c.args.faces.now) c.plan_written-plan.ensures)
