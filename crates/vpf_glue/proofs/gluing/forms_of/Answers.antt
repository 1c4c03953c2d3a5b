use Rattle.std.proofs.Common.{Option, subst}
use Rattle.std.specs.Option.{option_copied}
use Rattle.std.specs.Prelude.{IfSome}
use Rattle.vpf_table.specs.Grid.{Grid}
use Rattle.vpf_prims.specs.Libraries.{library_of}
use Rattle.vpf_cross.specs.CarriedLines.{first_tile}
use Rattle.vpf_glue.specs.Inner.Sources.{IsOfTile}
use Rattle.vpf_glue.proofs.FormLemmas.{forms_same}
use Rattle.vpf_glue.proofs.gluing.forms_of.Goals as goal

pub new-requires-clause-columns : goal.new-requires-clause-columns
new-requires-clause-columns c = c.numbers_are_right.ensures.columns.suit (first_tile (library_of c.args.checked.now)) c.args.first.now c.requires

pub new-requires-clause-entities : goal.new-requires-clause-entities
new-requires-clause-entities c = λ grid e.
    let of = subst (λ (o : Option Grid). IfSome o (λ end. IsOfTile (λ T. T.end) c.args.checked.now end)) e c.first_end_of.ensures.of_tile in
    (c.numbers_are_right.ensures.columns.suit of.tile of.T of.has).end grid of.table

pub returns-clause-tables : goal.returns-clause-tables
returns-clause-tables c =
    forms_same c.new.result c.args.first.now.tables c.args.checked.now (option_copied c.first_end_of.result) c.first_end_of.ensures.first
    c.new.ensures.edg c.new.ensures.fac c.new.ensures.rng c.new.ensures.cnd c.new.ensures.end
