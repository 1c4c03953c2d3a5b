use Rattle.std.proofs.Common.{◌≡◌, ◌∙◌, List, [], ◌∷◌, ap, map, subst, sym}
use Rattle.vpf_write.specs.Revise.Revising.{FitsElsewhere, NewValue, new_value}
use Rattle.vpf_primitive_tables.specs.TableForms.Forms.{head_like, pair_kinds, pair_values}
use Rattle.vpf_primitive_tables.specs.Inner.TableForms.Models.{PairsLike}
use Rattle.vpf_primitive_tables.proofs.table_forms.NewCellLemmas.{news_fit, number_put, pair_fits, pair_values_are}
use Rattle.vpf_primitive_tables.proofs.table_forms.pairs.PairForm.put.Goals as goal

pub put-requires-clause-changes : goal.put-requires-clause-changes
put-requires-clause-changes c =
    let f = c.self.inside in
    let name = f.name.now in
    let columns = f.table.now.head.columns in
    let places = c.self.invariant.places in
    let shown = c.new_cells.ensures name columns places ∙ pair_values_are name columns f.places c.args.number c.args.reference places in
    let head : c.args.made.now.head ≡ head_like f.table.now (pair_kinds name) =
    c.requires.head ∙ ap (λ (l : PairsLike). head_like l.table (pair_kinds l.name)) (sym c.self.view_is) in
    news_fit c.args.made.now.head f.table.now.head (pair_kinds name columns) _ (number_put f.places.id c.args.number ∷ number_put f.places.reference c.args.reference ∷ []) head shown
    (pair_fits c.columns_by_position.ensures.each c.numbers_and_ids_fit.ensures.numbers name columns f.places c.args.number c.args.reference places c.requires.number c.requires.reference)

pub put-requires-clause-others : goal.put-requires-clause-others
put-requires-clause-others c =
    let f = c.self.inside in
    let cells : map new_value c.new_cells.result ≡ pair_values c.args.self.now.name c.args.self.now.table.head.columns c.args.number c.args.reference =
    c.new_cells.ensures f.name.now f.table.now.head.columns c.self.invariant.places
    ∙ ap (λ (l : PairsLike). pair_values l.name l.table.head.columns c.args.number c.args.reference) c.self.view_is in
    subst (λ (news : List NewValue). FitsElsewhere news c.args.made.now.head.columns c.args.row.now) (sym cells) c.requires.others

pub returns-clause-put : goal.returns-clause-put
returns-clause-put c =
    let f = c.self.inside in
    let cells : map new_value c.new_cells.result ≡ pair_values c.args.self.now.name c.args.self.now.table.head.columns c.args.number c.args.reference =
    c.new_cells.ensures f.name.now f.table.now.head.columns c.self.invariant.places
    ∙ ap (λ (l : PairsLike). pair_values l.name l.table.head.columns c.args.number c.args.reference) c.self.view_is in
    rw cells at c.put.ensures.ok
