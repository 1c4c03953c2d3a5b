use Rattle.std.proofs.Common.{sym, subst}
use Rattle.vpf_cross.specs.Agreeing.{LibraryAgrees}
use Rattle.vpf_drill.proofs.grid_agreement.AgreementLemmas.{have_columns, library-is, agrees}
use Rattle.vpf_drill.proofs.grid_agreement.laws.grid_agrees.Goals as goal

pub returns-clause-columns : goal.returns-clause-columns
returns-clause-columns c = have_columns

pub returns-clause-rows : goal.returns-clause-rows
returns-clause-rows c = library-is c.tables_say_grid.ensures

pub returns-clause-agrees : goal.returns-clause-agrees
returns-clause-agrees c n le most =
    let grid = c.grid_is_well_formed.ensures in
    subst LibraryAgrees (sym (library-is c.tables_say_grid.ensures n)) (agrees n (grid.library n most) (grid.well_formed n le most))
