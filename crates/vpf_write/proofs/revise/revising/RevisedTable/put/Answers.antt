use Rattle.std.proofs.Common.{◌≡◌, ◌∷◌, ◌++◌, [], map, sym, ap, ◌∙◌, subst}
use Rattle.vpf_value.specs.Values.{view}
use Rattle.vpf_table.specs.Canonical.{FitsRow}
use Rattle.vpf_table.specs.Grid.{Row}
use Rattle.vpf_write.specs.Inner.Tallies.{Tally, Holds}
use Rattle.vpf_write.specs.Revise.Revising.{new_value, revised}
use Rattle.vpf_write.proofs.revise.FittingRows.{revised_fits}
use Rattle.vpf_write.proofs.revise.Turns.{all_within}
use Rattle.vpf_write.proofs.revise.revising.RevisedTable.put.Goals as goal

pub revise-requires : goal.revise-requires
revise-requires c = all_within c.args.self.now.head.columns c.args.changes.now c.fill.new.cells c.args.row.now c.requires.changes c.requires.others.width (c.fill.ensures ∙ c.cells.ensures)

pub put_row-requires : goal.put_row-requires
put_row-requires c =
    let changes = map new_value c.args.changes.now in
    let row : map view c.revise.new.cells ≡ revised changes c.args.row.now = c.revise.ensures ∙ ap (λ (row : Row). revised changes row) (c.fill.ensures ∙ c.cells.ensures) in
    let fits = revised_fits changes c.args.self.now.head.columns c.args.row.now c.requires.changes c.requires.others in
    subst (λ (t : Tally). FitsRow t.head.columns (map view c.revise.new.cells)) (sym c.self.view_is) (subst (FitsRow c.args.self.now.head.columns) (sym row) fits)

pub returns-clause-ok : goal.returns-clause-ok
returns-clause-ok c =
    let changes = map new_value c.args.changes.now in
    let row : map view c.revise.new.cells ≡ revised changes c.args.row.now = c.revise.ensures ∙ ap (λ (row : Row). revised changes row) (c.fill.ensures ∙ c.cells.ensures) in
    λ rows h. subst (λ (row : Row). Holds c.put_row.new.self (rows ++ row ∷ [])) row (c.in_ok-put_row.ensures.ok rows (subst (λ (t : Tally). Holds t rows) (sym c.self.view_is) h))
