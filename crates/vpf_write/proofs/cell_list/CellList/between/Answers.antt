use Rattle.std.specs.Prelude.{slice_range}
use Rattle.std.proofs.Common.{◌-◌, List, map, take, drop, sym, ap, ◌∙◌}
use Rattle.std.proofs.lemmas.List.{take-map, drop-map}
use Rattle.vpf_value.specs.declared.cells.Cell.{Cell}
use Rattle.vpf_value.specs.Values.{view}
use Rattle.vpf_table.specs.Grid.{Row}
use Rattle.vpf_write.proofs.cell_list.CellList.between.Goals as goal

pub returns : goal.returns
returns c =
    let cells = c.self.inside.cells.items in
    let from = c.args.from in
    let n = c.args.past - from in
    ap (λ (xs : List Cell). map view (take n (drop from xs))) c.deref.ensures.value ∙ sym (take-map view n (drop from cells)) ∙ ap (take n) (sym (drop-map view from cells)) ∙ ap (λ (row : Row). slice_range row from c.args.past) c.self.view_is
