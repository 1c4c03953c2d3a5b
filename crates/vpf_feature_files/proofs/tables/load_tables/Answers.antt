use Rattle.std.proofs.Common.{◌∙◌, ◌+◌, drop, map, arith, refl}
use Rattle.std.proofs.lemmas.Result.{err_from_is_err_and}
use Rattle.vpf_base.proofs.Results.{no_ok}
use Rattle.vpf_library_files.specs.declared.loading.loading.LoadStop.TheVariants as stops
use Rattle.vpf_feature_files.specs.Inner.SchemaRows.Listing.{item_text}
use Rattle.vpf_feature_files.proofs.FeatureLemmas.{items_left, next_table, none_left, tables_done, tables_stop}
use Rattle.vpf_feature_files.proofs.tables.load_tables.Goals as goal

pub returns-in_err-add_table-clause-reads : goal.returns-in_err-add_table-clause-reads
returns-in_err-add_table-clause-reads g c =
    let p = err_from_is_err_and c.from_residual.result c.from_residual.ensures.1 in
    let i = c.loop-item.invariant in
    let told = g.T.Tree.files c.args.tree.now in
    let folder = c.args.folder.now in
    let items = c.args.items.now in
    let files = c.loop-item.tables.items in
    let left = items_left told folder items c.loop-item.item-index c.args.loaded.now c.loop-item.loaded _ _ files c.loop-item-test.true refl i.read in
    rw (p.1, p.2) (tables_stop told (g.T.Tree.files c.loop-item.tree) folder (map item_text items) (map item_text (drop (c.loop-item.item-index + 1) items))
    _ c.args.loaded.now c.loop-item.loaded c.add_table.new.loaded files c.in_err-add_table.field-0.0 i.same left c.in_err-add_table.ensures.reads)

pub loop-item-preserved : goal.loop-item-preserved
loop-item-preserved g c =
    let i = c.loop-item.invariant in
    let told = g.T.Tree.files c.args.tree.now in
    let folder = c.args.folder.now in
    let items = c.args.items.now in
    let files = c.loop-item.tables.items in
    let left = items_left told folder items c.loop-item.item-index c.args.loaded.now c.loop-item.loaded _ _ files c.loop-item-test.true refl i.read in
    record {
      read = next_table told (g.T.Tree.files c.loop-item.tree) folder (map item_text items) (map item_text (drop (c.loop-item.item-index + 1) items)) _
          c.args.loaded.now c.loop-item.loaded c.add_table.new.loaded files c.add_table.new.tables.items i.same left c.in_ok-add_table.ensures.reads;
      rising = omega (arith, i.rising, c.add_table.ensures.only.rising);
      most = c.add_table.ensures.only.most;
      stood = c.in_ok-add_table.ensures.only.stood (λ e. no_ok c.in_ok-add_table.field-0 stops.Fault e) ∙ i.stood;
      same = c.add_table.ensures.only.files ∙ i.same;
    }

pub returns-clause-reads : goal.returns-clause-reads
returns-clause-reads g c =
    let told = g.T.Tree.files c.args.tree.now in
    let folder = c.args.folder.now in
    let items = c.args.items.now in
    tables_done told folder (map item_text items) c.args.loaded.now c.loop-item.loaded c.loop-item.tables.items
    (none_left told folder items c.loop-item.item-index c.args.loaded.now c.loop-item.loaded c.loop-item.tables.items c.loop-item-test.false c.loop-item.invariant.read)
