use Rattle.std.proofs.Common.{◌+◌, ◌<◌, ◌^◌, ◌∙◌, List, [], ◌∷◌, ◌++◌, codes, length, ap, refl, sym, subst, arith}
use Rattle.std.specs.Prelude.{All}
use Rattle.std.proofs.lemmas.List.Elements.{All-head, All-rest}
use Rattle.vpf_triplet.specs.declared.kinds.Kind.TheVariants as kinds
use Rattle.vpf_head.specs.Head.{Head}
use Rattle.vpf_prims.specs.Columns.{column_of}
use Rattle.vpf_table.specs.Canonical.{FitsRow}
use Rattle.vpf_table.specs.Grid.{Row}
use Rattle.vpf_write.specs.Inner.Tallies.{Holds}
use Rattle.vpf_write.specs.Writing.{Writes}
use Rattle.vpf_write.specs.declared.revise.changes.NewKind.{NewKind}
use Rattle.vpf_write.specs.Revise.Revising.{NewValue, head_with_kinds, revised}
use Rattle.vpf_tiling.specs.Ranks.{numbered}
use Rattle.vpf_primitive_tables.proofs.table_forms.ColumnLemmas.{number_names}
use Rattle.vpf_primitive_tables.proofs.table_forms.NewCellLemmas.{id_fits, id_kinds_are, id_values_are, kind_at, news_fit, number_put, others_fit}
use Rattle.vpf_primitive_tables.proofs.tile_tables.TileLemmas.{put_last, put_next, tile_row}
use Rattle.vpf_primitive_tables.proofs.tile_tables.tiles.write_tiles.Goals as goal

pub place_in-id-requires : goal.place_in-id-requires
place_in-id-requires c = rw c.header.ensures (number_names (codes "id") (column_of c.args.tileref.now.head.columns (codes "id")) c.requires.0)

pub overflow_add-number : goal.overflow_add-number
overflow_add-number c = omega (arith, ap length c.in-Some.ensures.steps, c.loop-row.invariant.left, c.len-rows.ensures.value, c.len-rows.ensures.most)

pub new_number-requires : goal.new_number-requires
new_number-requires c = omega (arith, ap length c.in-Some.ensures.steps, c.loop-row.invariant.left, c.len-rows.ensures.value, c.len-rows.ensures.most)

pub loop-row-init : goal.loop-row-init
loop-row-init c =
    let columns = c.args.tileref.now.head.columns in
    let gives = c.into_iter-row-iterator.ensures.into_iter_gives in
    let all = gives ∙ c.rows-row-items.ensures.rows in
    record {
      head = refl;
      fits = subst (All (FitsRow columns)) (sym gives) c.rows-row-items.ensures.fits;
      left = omega (arith, ap length all);
      put = record { put = []; holds = c.in_ok-made.ensures.holds; whole = ap (λ (rows : List Row). numbered (tile_row columns) rows) all };
    }

pub put-requires-clause-changes : goal.put-requires-clause-changes
put-requires-clause-changes c =
    let g = c.args.tileref.now.head in
    let id = c.place_in-id.result in
    let at = rw c.header.ensures at c.place_in-id.ensures in
    let header = rw (c.new_kind.ensures, c.header-2.ensures) at c.in_ok-header.ensures in
    let small : c.loop-row.number + 1 < 2 ^ 31 = omega (arith, ap length c.in-Some.ensures.steps, c.loop-row.invariant.left, c.len-rows.ensures.value, c.len-rows.ensures.most) in
    news_fit c.loop-row.made.head g (kind_at id kinds.I ∷ []) _ (number_put id (c.loop-row.number + 1) ∷ []) (c.loop-row.invariant.head ∙ c.in_ok-made.ensures.head ∙ header)
    (ap (λ (x : NewValue). x ∷ []) c.new_number.ensures)
    (id_fits c.columns_by_position.ensures.each c.numbers_and_ids_fit.ensures.numbers g.columns id (c.loop-row.number + 1) at small)

pub put-requires-clause-others : goal.put-requires-clause-others
put-requires-clause-others c =
    let g = c.args.tileref.now.head in
    let id = c.place_in-id.result in
    let header = rw (c.new_kind.ensures, c.header-2.ensures) at c.in_ok-header.ensures in
    let left = rw c.in-Some.ensures.steps at c.loop-row.invariant.fits in
    others_fit c.revised_rows_fit.ensures.same c.loop-row.made.head g (kind_at id kinds.I ∷ []) (kind_at id kinds.I ∷ []) _ (number_put id (c.loop-row.number + 1) ∷ []) c.in-Some.row
    (c.loop-row.invariant.head ∙ c.in_ok-made.ensures.head ∙ header) (ap (λ (x : NewValue). x ∷ []) c.new_number.ensures) refl refl
    (All-head (FitsRow g.columns) c.in-Some.row c.next.new.self left)

pub loop-row-preserved : goal.loop-row-preserved
loop-row-preserved c =
    let columns = c.args.tileref.now.head.columns in
    let steps = c.in-Some.ensures.steps in
    let at = rw c.header.ensures at c.place_in-id.ensures in
    let cells = ap (λ (x : NewValue). x ∷ []) c.new_number.ensures ∙ sym (id_values_are columns c.place_in-id.result (c.loop-row.number + 1) at) in
    let put = λ (rows : List Row) (h : Holds c.loop-row.made rows). subst (λ (news : List NewValue). Holds c.put.new.self (rows ++ revised news c.in-Some.row ∷ [])) cells (c.in_ok-put.ensures.ok rows h) in
    record {
      head = c.in_ok-put.ensures.head ∙ c.loop-row.invariant.head;
      fits = All-rest (FitsRow columns) c.in-Some.row c.next.new.self c.loop-row.row-iterator steps c.loop-row.invariant.fits;
      left = omega (arith, ap length steps, c.loop-row.invariant.left);
      put = put_next c.loop-row.made c.put.new.self (tile_row columns) c.loop-row.number c.loop-row.row-iterator c.next.new.self c.args.tileref.now.rows c.in-Some.row steps put c.loop-row.invariant.put;
    }

pub returns : goal.returns
returns c =
    let g = c.args.tileref.now in
    let at = rw c.header.ensures at c.place_in-id.ensures in
    let header = rw (c.new_kind.ensures, c.header-2.ensures) at c.in_ok-header.ensures in
    let done = put_last c.loop-row.made (tile_row g.head.columns) c.loop-row.number c.loop-row.row-iterator g.rows c.in-None.ensures.steps.0 c.loop-row.invariant.put in
    subst (λ (h : Head). Writes (record { head = h; rows = numbered (tile_row g.head.columns) g.rows }) c.finish.result)
    (c.loop-row.invariant.head ∙ c.in_ok-made.ensures.head ∙ header
    ∙ ap (λ (kinds : List NewKind). head_with_kinds kinds g.head) (sym (id_kinds_are g.head.columns c.place_in-id.result at)))
    (c.finish.ensures.written (numbered (tile_row g.head.columns) g.rows) done)
