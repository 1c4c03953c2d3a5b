use Rattle.std.proofs.Common.{◌≡◌, length, refl}
use Rattle.std.specs.Prelude.{slice_index_or}
use Rattle.std.proofs.lemmas.List.Elements.{All-rest}
use Rattle.vpf_value.specs.Values.{Nothing}
use Rattle.vpf_table.specs.Grid.{Row}
use Rattle.vpf_theme.proofs.WalkLemmas.{cells_more}
use Rattle.vpf_theme.proofs.agreeing.column_cells.Goals as goal

pub loop-row-preserved : goal.loop-row-preserved
loop-row-preserved c =
    let i = c.loop-row.invariant in
    let steps = c.in-Some.ensures.steps in
    record {
      cells = cells_more (λ (row : Row). slice_index_or row c.args.column Nothing) c.args.column c.loop-row.cells.items c.push.new.self.items c.cell.result c.in-Some.row c.loop-row.row-iterator c.next.new.self _ (λ r. refl) c.in_ok-push.ensures.items c.cell.ensures steps i.cells;
      width = All-rest (λ (row : Row). length row ≡ length c.args.table.now.head.columns) c.in-Some.row c.next.new.self c.loop-row.row-iterator steps i.width;
    }
