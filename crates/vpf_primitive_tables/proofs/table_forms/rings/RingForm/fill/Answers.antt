use Rattle.std.proofs.Common.{◌≡◌, ◌∙◌, ap, length, map, subst, sym}
use Rattle.std.proofs.lemmas.List.{length-map}
use Rattle.vpf_value.specs.Values.{view}
use Rattle.vpf_table.specs.Grid.{Grid}
use Rattle.vpf_tiling.specs.Tiles.{Ring}
use Rattle.vpf_primitive_tables.specs.TableForms.Forms.{ring_row}
use Rattle.vpf_primitive_tables.proofs.table_forms.RingLemmas.{filled, puts_row}
use Rattle.vpf_primitive_tables.proofs.table_forms.rings.RingForm.fill.Goals as goal

pub returns : goal.returns
returns c =
    let f = c.self.inside in
    let columns = f.table.now.head.columns in
    let ring : Ring = record { face = c.args.face; edge = c.args.edge } in
    let apart = rw c.header.ensures at c.len-columns.ensures.sound.distinct in
    let width : length c.args.cells.now ≡ length columns = subst (λ (g : Grid). length c.args.cells.now ≡ length g.head.columns) (sym c.self.view_is) c.requires.width in
    filled c.args.cells.now f.places c.args.number ring c.number_cell.result c.number_cell-2.result c.number_cell-3.result c.number_cell.ensures c.number_cell-2.ensures c.number_cell-3.ensures
    ∙ puts_row (record { width = c.rows_by_position.ensures.width; each = c.rows_by_position.ensures.each }) columns f.places c.args.number ring (map view c.args.cells.now) apart
    c.self.invariant.bare c.self.invariant.places (length-map c.args.cells.now view ∙ width)
    ∙ ap (λ (g : Grid). ring_row g.head.columns c.args.number ring) c.self.view_is
