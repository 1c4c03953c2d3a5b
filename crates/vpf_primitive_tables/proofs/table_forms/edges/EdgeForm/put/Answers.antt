use Rattle.std.proofs.Common.{◌≡◌, ◌∙◌, List, ap, map, subst, sym}
use Rattle.vpf_write.specs.Revise.Revising.{FitsElsewhere, NewValue, new_value}
use Rattle.vpf_primitive_tables.specs.TableForms.Forms.{AreOfKind, edge_kinds_of, edge_values_of, head_like}
use Rattle.vpf_primitive_tables.specs.Inner.TableForms.Models.{EdgesLike, values_of_edge}
use Rattle.vpf_primitive_tables.proofs.table_forms.NewCellLemmas.{edge_fits, edge_puts, edge_values_are, news_fit}
use Rattle.vpf_primitive_tables.proofs.table_forms.edges.EdgeForm.put.Goals as goal

pub put-requires-clause-changes : goal.put-requires-clause-changes
put-requires-clause-changes c =
    let f = c.self.inside in
    let columns = f.table.now.head.columns in
    let v = values_of_edge c.args.references.now in
    let places = c.self.invariant.places in
    let shown = c.new_cells.ensures columns places ∙ edge_values_are columns f.places c.args.number v places in
    let head : c.args.made.now.head ≡ head_like f.table.now (edge_kinds_of f.references) =
    c.requires.head ∙ ap (λ (l : EdgesLike). head_like l.table (edge_kinds_of l.references)) (sym c.self.view_is) in
    news_fit c.args.made.now.head f.table.now.head (edge_kinds_of f.references columns) _ (edge_puts f.places c.args.number v) head shown
    (edge_fits c.columns_by_position.ensures.each c.numbers_and_ids_fit.ensures.numbers f.references columns f.places c.args.number v places c.requires.number
    (subst (λ (l : EdgesLike). AreOfKind l.references v) (sym c.self.view_is) c.requires.references))

pub put-requires-clause-others : goal.put-requires-clause-others
put-requires-clause-others c =
    let f = c.self.inside in
    let v = values_of_edge c.args.references.now in
    let cells : map new_value c.new_cells.result ≡ edge_values_of c.args.self.now.table.head.columns c.args.number v =
    c.new_cells.ensures f.table.now.head.columns c.self.invariant.places ∙ ap (λ (l : EdgesLike). edge_values_of l.table.head.columns c.args.number v) c.self.view_is in
    subst (λ (news : List NewValue). FitsElsewhere news c.args.made.now.head.columns c.args.row.now) (sym cells) c.requires.others

pub returns-clause-put : goal.returns-clause-put
returns-clause-put c =
    let f = c.self.inside in
    let v = values_of_edge c.args.references.now in
    let cells : map new_value c.new_cells.result ≡ edge_values_of c.args.self.now.table.head.columns c.args.number v =
    c.new_cells.ensures f.table.now.head.columns c.self.invariant.places ∙ ap (λ (l : EdgesLike). edge_values_of l.table.head.columns c.args.number v) c.self.view_is in
    rw cells at c.put.ensures.ok
