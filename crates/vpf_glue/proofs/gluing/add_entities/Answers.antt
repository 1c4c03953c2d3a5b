use Rattle.std.proofs.Common.{Option, sym, subst}
use Rattle.std.specs.Option.{option_map}
use Rattle.vpf_library_files.specs.TableFiles.Adding.{Adds}
use Rattle.vpf_primitive_tables.specs.Inner.TableForms.Models.{PairsLike}
use Rattle.vpf_glue.specs.GluedTables.Grids.{glued_entity_grid}
use Rattle.vpf_glue.specs.Tables.{end_tables}
use Rattle.vpf_glue.proofs.gluing.add_entities.Goals as goal

pub returns-in-Some : goal.returns-in-Some
returns-in-Some c =
    rw c.in-Some.is (c.add_table.ensures _ c.entities_written-written.ensures)
