use Rattle.std.proofs.Common.{◌≡◌, ◌∙◌, List, ap, map, subst, sym}
use Rattle.vpf_value.specs.Values.{view}
use Rattle.vpf_head.specs.Head.{Head}
use Rattle.vpf_table.specs.Canonical.{FitsRow}
use Rattle.vpf_table.specs.Grid.{Grid}
use Rattle.vpf_write.specs.Revise.Revising.{NewValue, revised, with_kinds}
use Rattle.vpf_tiling.specs.Tiles.{Ring}
use Rattle.vpf_primitive_tables.specs.TableForms.Forms.{bare_row, head_like, ring_kinds, ring_row}
use Rattle.vpf_primitive_tables.proofs.table_forms.NewCellLemmas.{ring_fits, ring_values_are}
use Rattle.vpf_primitive_tables.proofs.table_forms.RingLemmas.{others_covered, ring_puts}
use Rattle.vpf_primitive_tables.proofs.table_forms.rings.RingForm.put.Goals as goal

pub put_row-requires : goal.put_row-requires
put_row-requires c =
    let f = c.self.inside in
    let columns = f.table.now.head.columns in
    let ring : Ring = record { face = c.args.face; edge = c.args.edge } in
    let places = c.self.invariant.places in
    let news = ring_kinds columns in
    let apart = rw c.header.ensures at c.len-columns.ensures.sound.distinct in
    let puts = ring_puts f.places c.args.number ring in
    let fits : FitsRow (with_kinds news columns) (revised puts (bare_row columns)) =
    c.revised_rows_fit.ensures.row puts (with_kinds news columns) (bare_row columns)
    (ring_fits c.columns_by_position.ensures.each c.numbers_and_ids_fit.ensures.numbers columns f.places c.args.number ring places c.requires.number c.requires.ring.face c.requires.ring.edge)
    (others_covered columns (with_kinds news columns) f.places c.args.number ring apart c.self.invariant.bare places (c.columns_by_position.ensures.width news columns)) in
    let row : map view c.fill.new.cells ≡ revised puts (bare_row columns) =
    c.fill.ensures ∙ ap (λ (g : Grid). ring_row g.head.columns c.args.number ring) (sym c.self.view_is)
    ∙ ap (λ (values : List NewValue). revised values (bare_row columns)) (ring_values_are columns f.places c.args.number ring places) in
    let head : c.args.writer.now.head ≡ head_like f.table.now ring_kinds = c.requires.head ∙ ap (λ (g : Grid). head_like g ring_kinds) (sym c.self.view_is) in
    subst (λ (h : Head). FitsRow h.columns (map view c.fill.new.cells)) (sym head) (subst (FitsRow (with_kinds news columns)) (sym row) fits)

pub returns-clause-put : goal.returns-clause-put
returns-clause-put c = rw c.fill.ensures at c.put_row.ensures.ok
